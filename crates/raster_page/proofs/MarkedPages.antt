-- Pages of marks.
use Rattle.std.proofs.Common.{◌≡◌, ℕ, ℤ, pos, ◌+ℤ◌, int_le, int_lt, ◌&&◌, subst, ◌<◌, Bool, true, false, ◌||◌, List, [], ◌∷◌, ◌++◌, refl, ap, sym, ◌∙◌}
use Rattle.std.specs.List.{list_any}
use Rattle.std.proofs.lemmas.List.Folds.{list_any-append}
use Rattle.packed_rows.specs.Bitmap.{Bitmap, is_black}
use Rattle.packed_rows.specs.Changes.{is_within, with_black}
use Rattle.packed_rows.proofs.StoredBitmaps.{dot_of, same_dots}
use Rattle.raster_page.specs.Ink.{Inked, Bar, covers, is_inked, page_of, with_mark, MarksAdd, NewestMayStandLast, DotsAreDecidedAlone, MarksCommute}

abbrev made : ℕ → ℕ → List (List Bool) → Bitmap
made width height rows = record { width = width; height = height; rows = rows }

pub dots_are_decided_alone : DotsAreDecidedAlone
dots_are_decided_alone width height x y marks h g = dot_of width height x y (λ k r. is_inked marks k r) h g

pub marks_add : MarksAdd
marks_add width height marks mark = ap (made width height) (same_dots width height (λ x y. covers x y mark || is_black (page_of width height marks) x y) (λ x y. is_inked (mark ∷ marks) x y)
    (λ x y in_row low. ap (λ b. covers x y mark || b) (dots_are_decided_alone width height x y marks in_row low)))

pub newest_may_stand_last : NewestMayStandLast
newest_may_stand_last width height marks mark = ap (made width height) (same_dots width height (λ x y. is_inked (marks ++ mark ∷ []) x y) (λ x y. is_inked (mark ∷ marks) x y)
    (λ x y in_row low. list_any-append (covers x y) marks (mark ∷ []) ∙ turned (list_any (covers x y) marks) (covers x y mark)))
  where
    turned : (a b : Bool) → (a || (b || false)) ≡ (b || a)
    turned true true = refl
    turned true false = refl
    turned false true = refl
    turned false false = refl

-- a dot of a page on which one more mark is set
pub marked_dot : (page : Bitmap) (mark : Inked) (x y : ℕ) → x < page.width → y < page.height → is_black (with_mark page mark) x y ≡ (covers x y mark || is_black page x y)
marked_dot page mark x y in_row on_page = dot_of page.width page.height x y (λ k r. covers k r mark || is_black page k r) in_row on_page

pub marks_commute : MarksCommute
marks_commute page first second = ap (made page.width page.height) (same_dots page.width page.height (λ x y. covers x y second || is_black (with_mark page first) x y) (λ x y. covers x y first || is_black (with_mark page second) x y)
    (λ x y in_row on_page. ap (λ b. covers x y second || b) (marked_dot page first x y in_row on_page) ∙ swapped (covers x y second) (covers x y first) (is_black page x y)
    ∙ sym (ap (λ b. covers x y first || b) (marked_dot page second x y in_row on_page))))
  where
    swapped : (a b c : Bool) → (a || (b || c)) ≡ (b || (a || c))
    swapped true true c = refl
    swapped true false c = refl
    swapped false true c = refl
    swapped false false c = refl

-- ---- a rule

-- a span is a stretch cut to a side
abbrev pub IsCut : ℕ → ℕ → ℕ → ℤ → ℤ → Type 0
IsCut from until side at len = (p : ℕ) → p < side → is_within from until p ≡ (int_le at (pos p) && int_lt (pos p) (at +ℤ len))

pub same_cut : (from until side side' : ℕ) (at at' len len' : ℤ) → side ≡ side' → at ≡ at' → len ≡ len' → IsCut from until side at len → IsCut from until side' at' len'
same_cut from until side side' at at' len len' s e f cut =
    subst (λ (z : ℤ). IsCut from until side' at' z) f (subst (λ (z : ℤ). IsCut from until side' z len) e (subst (λ (n : ℕ). IsCut from until n at len) s cut))

regrouped : (a b c d : Bool) → ((a && b) && (c && d)) ≡ (a && b && c && d)
regrouped true true true d = refl
regrouped true true false d = refl
regrouped true false c d = refl
regrouped false b c d = refl

-- blackened columns and rows that are cut to the page are the bar
pub ruled : (page : Bitmap) (cf cu rf ru : ℕ) (left top w h : ℤ) → IsCut cf cu page.width left w → IsCut rf ru page.height top h → with_black page cf cu rf ru ≡ with_mark page (Bar left top w h)
ruled page cf cu rf ru left top w h columns rows = ap (made page.width page.height) (same_dots page.width page.height (λ x y. is_within cf cu x && is_within rf ru y || is_black page x y) (λ x y. covers x y (Bar left top w h) || is_black page x y) each)
  where
    each : (x y : ℕ) → x < page.width → y < page.height → (is_within cf cu x && is_within rf ru y || is_black page x y) ≡ (covers x y (Bar left top w h) || is_black page x y)
    each x y in_row on_page = ap (λ b. b || is_black page x y)
        (ap (λ b. b && is_within rf ru y) (columns x in_row) ∙ ap (λ b. (int_le left (pos x) && int_lt (pos x) (left +ℤ w)) && b) (rows y on_page)
        ∙ regrouped (int_le left (pos x)) (int_lt (pos x) (left +ℤ w)) (int_le top (pos y)) (int_lt (pos y) (top +ℤ h)))
