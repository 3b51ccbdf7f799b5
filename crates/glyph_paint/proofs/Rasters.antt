-- Rasters beside the page, and wholly black ones.
use Rattle.std.proofs.Common.{◌≡◌, ℕ, ◌<◌, ◌≤◌, ◌⊎◌, inl, inr, ℤ, pos, negsuc, ◌+ℤ◌, ◌-ℤ◌, ◌≤ℤ◌, ◌<ℤ◌, int_le, int_lt, Bool, true, false, ◌&&◌, ◌||◌, ltb, [], ◌∷◌, get_or, refl, ap, ap₂, sym, ◌∙◌, arith}
use Rattle.std.proofs.lemmas.Int.{ints}
use Rattle.std.proofs.lemmas.Bool.{cases_lt, le-leb, le-ltb, lt-ltb}
use Rattle.std.proofs.lemmas.Bool.Decides.{same_from_decides}
use Rattle.std.proofs.lemmas.List.{get_or_past}
use Rattle.packed_rows.specs.Bitmap.{Bitmap, IsShaped, is_black, from_fn}
use Rattle.packed_rows.specs.Stamped.{is_black_at}
use Rattle.packed_rows.proofs.Lists.{from_fn_past, get_or-from_fn}
use Rattle.packed_rows.proofs.StoredBitmaps.{made, dot_of, same_dots}
use Rattle.raster_page.specs.Ink.{Dots, Bar, covers, is_inked}
use Rattle.raster_page.proofs.MarkedPages.{marks_commute}
use Rattle.glyph_paint.specs.Glyphs.{IsBeside, black_raster, GlyphsCommute, GlyphsBesideLeaveThePage, BlackGlyphsAreRules}

pub glyphs_commute : GlyphsCommute
glyphs_commute page first second left top left' top' = marks_commute page (Dots first left top) (Dots second left' top')

-- ---- beside the page

white_low : (raster : Bitmap) (x y : ℕ) → IsShaped raster → raster.height ≤ y → is_black raster x y ≡ false
white_low raster x y size below = ap (λ row. get_or row x false) (get_or_past raster.rows y [] (omega (arith, size.rows, below)))

white_right : (raster : Bitmap) (x y : ℕ) → IsShaped raster → raster.width ≤ x → is_black raster x y ≡ false
white_right raster x y size after = by (cases_lt y raster.height)
  where
    by : (y < raster.height) ⊎ (raster.height ≤ y) → is_black raster x y ≡ false
    by (inl inside) = get_or_past (get_or raster.rows y []) x false (omega (arith, size.columns y inside, after))
    by (inr below) = white_low raster x y size below

-- a place lies outside a raster
abbrev IsOutside : Bitmap → ℤ → ℤ → Type 0
IsOutside raster a b = (a <ℤ pos 0) ⊎ (pos raster.width ≤ℤ a) ⊎ (b <ℤ pos 0) ⊎ (pos raster.height ≤ℤ b)

white_outside : (raster : Bitmap) (a b : ℤ) → IsShaped raster → IsOutside raster a b → is_black_at raster a b ≡ false
white_outside raster (pos x) (pos y) size (inl h) = absurd (omega (arith, ints, h))
white_outside raster (pos x) (pos y) size (inr (inl h)) = white_right raster x y size (omega (arith, ints, h))
white_outside raster (pos x) (pos y) size (inr (inr (inl h))) = absurd (omega (arith, ints, h))
white_outside raster (pos x) (pos y) size (inr (inr (inr h))) = white_low raster x y size (omega (arith, ints, h))
white_outside raster (pos x) (negsuc y) size h = refl
white_outside raster (negsuc x) (pos y) size h = refl
white_outside raster (negsuc x) (negsuc y) size h = refl

placed : (width height x y : ℕ) (raster : Bitmap) (left top : ℤ) → x < width → y < height → IsBeside width height raster left top → IsOutside raster (pos x -ℤ left) (pos y -ℤ top)
placed width height x y raster left top in_row on_page (inl h) = inr (inl (omega (arith, ints, h)))
placed width height x y raster left top in_row on_page (inr (inl h)) = inl (omega (arith, ints, h, in_row))
placed width height x y raster left top in_row on_page (inr (inr (inl h))) = inr (inr (inr (omega (arith, ints, h))))
placed width height x y raster left top in_row on_page (inr (inr (inr h))) = inr (inr (inl (omega (arith, ints, h, on_page))))

pub glyphs_beside_leave_the_page : GlyphsBesideLeaveThePage
glyphs_beside_leave_the_page width height marks raster left top size beside =
    ap (made width height) (same_dots width height (λ x y. is_inked (Dots raster left top ∷ marks) x y) (λ x y. is_inked marks x y)
    (λ x y in_row on_page. ap (λ b. b || is_inked marks x y) (white_outside raster (pos x -ℤ left) (pos y -ℤ top) size (placed width height x y raster left top in_row on_page beside))))

-- ---- black rasters

le_told : (a b : ℤ) → int_le a b ≡ true → a ≤ℤ b
le_told a b h = grind (arith, ints)

le_holds : (a b : ℤ) → a ≤ℤ b → int_le a b ≡ true
le_holds a b h = grind (arith, ints)

lt_told : (a b : ℤ) → int_lt a b ≡ true → a <ℤ b
lt_told a b h = grind (arith, ints)

lt_holds : (a b : ℤ) → a <ℤ b → int_lt a b ≡ true
lt_holds a b h = grind (arith, ints)

begun : (left x : ℤ) → int_le left x ≡ int_le (pos 0) (x -ℤ left)
begun left x = same_from_decides (int_le left x) (int_le (pos 0) (x -ℤ left)) (le_told left x, le_holds left x) (told, held)
  where
    told : int_le (pos 0) (x -ℤ left) ≡ true → left ≤ℤ x
    told e = let h : pos 0 ≤ℤ (x -ℤ left) = le_told (pos 0) (x -ℤ left) e in omega (arith, ints, h)

    held : left ≤ℤ x → int_le (pos 0) (x -ℤ left) ≡ true
    held h = le_holds (pos 0) (x -ℤ left) (omega (arith, ints, h))

not_ended : (left x w : ℤ) → int_lt x (left +ℤ w) ≡ int_lt (x -ℤ left) w
not_ended left x w = same_from_decides (int_lt x (left +ℤ w)) (int_lt (x -ℤ left) w) (lt_told x (left +ℤ w), lt_holds x (left +ℤ w)) (told, held)
  where
    told : int_lt (x -ℤ left) w ≡ true → x <ℤ (left +ℤ w)
    told e = let h : (x -ℤ left) <ℤ w = lt_told (x -ℤ left) w e in omega (arith, ints, h)

    held : x <ℤ (left +ℤ w) → int_lt (x -ℤ left) w ≡ true
    held h = lt_holds (x -ℤ left) w (omega (arith, ints, h))

-- the tests of a rectangle whose upper left dot is the first one
abbrev is_in : ℕ → ℕ → ℤ → ℤ → Bool
is_in width height a b = int_le (pos 0) a && int_lt a (pos width) && int_le (pos 0) b && int_lt b (pos height)

black_dot : (width height x y : ℕ) → is_black (black_raster width height) x y ≡ (ltb x width && ltb y height)
black_dot width height x y = by (cases_lt x width) (cases_lt y height)
  where
    by : (x < width) ⊎ (width ≤ x) → (y < height) ⊎ (height ≤ y) → is_black (black_raster width height) x y ≡ (ltb x width && ltb y height)
    by (inl in_row) (inl inside) = dot_of width height x y (λ k r. true) in_row inside ∙ sym (ap₂ (λ a b. a && b) (lt-ltb x width in_row) (lt-ltb y height inside))
    by (inl in_row) (inr below) =
        ap (λ row. get_or row x false) (from_fn_past height (λ r. from_fn width (λ k. true)) y [] below)
        ∙ sym (ap₂ (λ a b. a && b) (lt-ltb x width in_row) (le-ltb y height below))
    by (inr after) (inl inside) =
        ap (λ row. get_or row x false) (get_or-from_fn height (λ r. from_fn width (λ k. true)) y [] inside) ∙ from_fn_past width (λ k. true) x false after
        ∙ sym (ap (λ a. a && ltb y height) (le-ltb x width after))
    by (inr after) (inr below) =
        ap (λ row. get_or row x false) (from_fn_past height (λ r. from_fn width (λ k. true)) y [] below)
        ∙ sym (ap (λ a. a && ltb y height) (le-ltb x width after))

kept : (a b : Bool) → (a && b) ≡ (true && a && true && b)
kept true true = refl
kept true false = refl
kept false true = refl
kept false false = refl

and_false : (a b c : Bool) → false ≡ (a && b && false && c)
and_false true true c = refl
and_false true false c = refl
and_false false b c = refl

black_at : (width height : ℕ) (a b : ℤ) → is_black_at (black_raster width height) a b ≡ is_in width height a b
black_at width height (pos x) (pos y) =
    black_dot width height x y ∙ kept (ltb x width) (ltb y height)
    ∙ sym (ap₂ (λ p q. p && ltb x width && q && ltb y height) (le-leb 0 x (omega arith)) (le-leb 0 y (omega arith)))
black_at width height (pos x) (negsuc y) = and_false (int_le (pos 0) (pos x)) (ltb x width) (int_lt (negsuc y) (pos height))
black_at width height (negsuc x) (pos y) = refl
black_at width height (negsuc x) (negsuc y) = refl

black_covers : (width height x y : ℕ) (left top : ℤ) → covers x y (Dots (black_raster width height) left top) ≡ covers x y (Bar left top (pos width) (pos height))
black_covers width height x y left top =
    black_at width height (pos x -ℤ left) (pos y -ℤ top)
    ∙ sym (ap₂ (λ a b. a && b && int_le top (pos y) && int_lt (pos y) (top +ℤ pos height)) (begun left (pos x)) (not_ended left (pos x) (pos width))
    ∙ ap₂ (λ a b. int_le (pos 0) (pos x -ℤ left) && int_lt (pos x -ℤ left) (pos width) && a && b) (begun top (pos y)) (not_ended top (pos y) (pos height)))

pub black_glyphs_are_rules : BlackGlyphsAreRules
black_glyphs_are_rules page width height left top =
    ap (made page.width page.height) (same_dots page.width page.height (λ x y. covers x y (Dots (black_raster width height) left top) || is_black page x y)
    (λ x y. covers x y (Bar left top (pos width) (pos height)) || is_black page x y)
    (λ x y in_row on_page. ap (λ b. b || is_black page x y) (black_covers width height x y left top)))
