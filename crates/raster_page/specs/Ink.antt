-- What is set on a page of dots, and which dots it blackens: Knuth, DVItype, "Translation to
-- symbolic form" (where a character and a rule stand).
use Rattle.std.specs.Prelude.{◌≡◌, ℕ, ◌<◌, ℤ, pos, ◌+ℤ◌, ◌-ℤ◌, Bool, ◌&&◌, ◌||◌, List, [], ◌∷◌, ◌++◌, int_le, int_lt}
use Rattle.std.specs.List.{list_any}
use Rattle.packed_rows.specs.Bitmap.{Bitmap, is_black, from_fn}
use Rattle.packed_rows.specs.Stamped.{is_black_at}

-- what is set on the page: a raster with its upper left dot, or a black rectangle, with its upper
-- left dot, how many dots wide and how many high
pub data Inked : Type 0 where
  Dots : Bitmap → ℤ → ℤ → Inked
  Bar : ℤ → ℤ → ℤ → ℤ → Inked

-- the mark covers the dot in column x of row y
abbrev pub covers : ℕ → ℕ → Inked → Bool
covers x y (Dots raster left top) = is_black_at raster (pos x -ℤ left) (pos y -ℤ top)
covers x y (Bar left top w h) =
    int_le left (pos x) && int_lt (pos x) (left +ℤ w) && int_le top (pos y) && int_lt (pos y)
    (top +ℤ h)

-- each dot is decided alone: it is black where some mark covers it
abbrev pub is_inked : List Inked → ℕ → ℕ → Bool
is_inked marks x y = list_any (covers x y) marks

-- the page of these marks, in any order
abbrev pub page_of : ℕ → ℕ → List Inked → Bitmap
page_of width height marks =
    record {
      width = width;
      height = height;
      rows = from_fn height (λ y. from_fn width
          (λ x. is_inked marks x y));
    }

-- a page on which one more mark is set: the dots that it covers are black, the others as they were
abbrev pub with_mark : Bitmap → Inked → Bitmap
with_mark page mark =
    record {
      width = page.width;
      height = page.height;
      rows = from_fn page.height
          (λ y. from_fn page.width (λ x. covers x y mark || is_black page x y));
    }

-- ---- laws

-- a page of marks with one more set on it is the page of all of them
abbrev pub MarksAdd : Type 0
MarksAdd = (width height : ℕ) (marks : List Inked) (mark : Inked)
    → with_mark (page_of width height marks) mark ≡ page_of width height (mark ∷ marks)

-- it is the same whether the newest mark stands first or last
abbrev pub NewestMayStandLast : Type 0
NewestMayStandLast =
    (width height : ℕ) (marks : List Inked) (mark : Inked)
    → page_of width height (marks ++ mark ∷ []) ≡ page_of width height (mark ∷ marks)

-- the dots of a page of marks, each decided alone
abbrev pub DotsAreDecidedAlone : Type 0
DotsAreDecidedAlone =
    (width height x y : ℕ) (marks : List Inked) → x < width → y < height
    → is_black (page_of width height marks) x y ≡ is_inked marks x y

-- two marks blacken the same dots in either order
abbrev pub MarksCommute : Type 0
MarksCommute =
    (page : Bitmap) (first second : Inked) → with_mark (with_mark page first) second ≡ with_mark
    (with_mark page second) first
