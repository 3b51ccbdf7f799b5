-- The pixels of the rows of a raster.
use Rattle.std.proofs.Common.{◌≡◌, ◌∙◌, ℕ, zero, suc, ◌<◌, Bool, true, false, not, List, [], ◌∷◌, length, get_or, refl, sym, ap, arith}
use Rattle.std.specs.List.{list_any}
use Rattle.std.proofs.Math.Bool.{beq}
use Rattle.std.proofs.lemmas.Bool.{and_from, and_left, and_right, or_from, or_left, or_right}
use Rattle.packed_rows.specs.Bitmap.{Bitmap, from_fn, is_black}
use Rattle.packed_rows.specs.Packing.{pixel, pixels_of, row_text}
use Rattle.packed_rows.proofs.Lists.{from_fn_same, get_or-from_fn, length-from_fn}
use Rattle.pk_packer.specs.Written.{has_both_colours, pixel_rows}

-- ---- a row as it is seen

pub row_seen : (r : Bitmap) (y : ℕ) (bytes : List ℕ) → y < r.height → pixels_of r.width bytes ≡ get_or r.rows y [] → get_or (pixel_rows r) y [] ≡ pixels_of r.width bytes
unfolding pixel_rows
row_seen r y bytes inside e =
    get_or-from_fn r.height (λ v. from_fn r.width (λ x. is_black r x v)) y [] inside
    ∙ from_fn_same r.width _ _ (λ x in_row. ap (λ row. get_or row x false) (sym e) ∙ get_or-from_fn r.width (pixel bytes) x false in_row)

pub pixel_seen : (r : Bitmap) (y x : ℕ) (bytes : List ℕ) → y < r.height → x < r.width → pixels_of r.width bytes ≡ get_or r.rows y [] → get_or (get_or (pixel_rows r) y []) x false ≡ pixel bytes x
pixel_seen r y x bytes inside in_row e =
    ap (λ row. get_or row x false) (row_seen r y bytes inside e) ∙ get_or-from_fn r.width (pixel bytes) x false in_row

pub row_long : (r : Bitmap) (y : ℕ) → y < r.height → length (get_or (pixel_rows r) y []) ≡ r.width
unfolding pixel_rows
row_long r y inside = ap length (get_or-from_fn r.height (λ v. from_fn r.width (λ x. is_black r x v)) y [] inside) ∙ length-from_fn r.width (λ x. is_black r x y)

pub rows_high : (r : Bitmap) → length (pixel_rows r) ≡ r.height
unfolding pixel_rows
rows_high r = length-from_fn r.height (λ v. from_fn r.width (λ x. is_black r x v))

-- the bytes of two rows are equal where their pixels are
pub rows_same : (r : Bitmap) (y z : ℕ) (a b : List ℕ) → y < r.height → z < r.height → pixels_of r.width a ≡ get_or r.rows y [] → pixels_of r.width b ≡ get_or r.rows z [] → a ≡ b
    → get_or (pixel_rows r) y [] ≡ get_or (pixel_rows r) z []
rows_same r y z a b upper lower e f same = row_seen r y a upper e ∙ ap (pixels_of r.width) same ∙ sym (row_seen r z b lower f)

pub bytes_same : (r : Bitmap) (y z : ℕ) (a b : List ℕ) → y < r.height → z < r.height → pixels_of r.width a ≡ get_or r.rows y [] → pixels_of r.width b ≡ get_or r.rows z []
    → a ≡ row_text (get_or r.rows y []) → b ≡ row_text (get_or r.rows z []) → get_or (pixel_rows r) y [] ≡ get_or (pixel_rows r) z [] → a ≡ b
bytes_same r y z a b upper lower e f g h same =
    g ∙ ap row_text (sym e ∙ sym (row_seen r y a upper e) ∙ same ∙ row_seen r z b lower f ∙ f) ∙ sym h

-- ---- a row of both colours

any_at : (test : Bool → Bool) (row : List Bool) (k : ℕ) → k < length row → test (get_or row k false) ≡ true → list_any test row ≡ true
any_at test [] k inside is = absurd (omega (arith, inside))
any_at test (p ∷ row) zero inside is = or_left (test p) (list_any test row) is
any_at test (p ∷ row) (suc k) inside is = or_right (test p) (list_any test row) (any_at test row k (omega (arith, inside)) is)

none_at : (test : Bool → Bool) (row : List Bool) → ((k : ℕ) → k < length row → test (get_or row k false) ≡ false) → list_any test row ≡ false
none_at test [] never = refl
none_at test (p ∷ row) never = or_from (test p) (list_any test row) (never 0 (omega arith)) (none_at test row (λ k below. never (suc k) (omega (arith, below))))

pub two_colours : (row : List Bool) (first : Bool) (w end : ℕ) → length row ≡ w → end < w → get_or row 0 false ≡ first → get_or row end false ≡ not first → has_both_colours row ≡ true
two_colours row true w end long within e f =
    and_from (list_any (λ p. p) row) (list_any not row) (any_at (λ p. p) row 0 (omega (arith, long, within)) e) (any_at not row end (omega (arith, long, within)) (ap not f))
two_colours row false w end long within e f =
    and_from (list_any (λ p. p) row) (list_any not row) (any_at (λ p. p) row end (omega (arith, long, within)) f) (any_at not row 0 (omega (arith, long, within)) (ap not e))

pub one_colour : (row : List Bool) (first : Bool) → ((k : ℕ) → k < length row → get_or row k false ≡ first) → has_both_colours row ≡ false
one_colour row true same = and_right (list_any (λ p. p) row) (list_any not row) (none_at not row (λ k below. ap not (same k below)))
one_colour row false same = and_left (list_any (λ p. p) row) (list_any not row) (none_at (λ p. p) row same)

pub dot_seen : (r : Bitmap) (y x : ℕ) → y < r.height → x < r.width → get_or (get_or (pixel_rows r) y []) x false ≡ is_black r x y
unfolding pixel_rows
dot_seen r y x inside in_row =
    ap (λ row. get_or row x false) (get_or-from_fn r.height (λ v. from_fn r.width (λ u. is_black r u v)) y [] inside) ∙ get_or-from_fn r.width (λ u. is_black r u y) x false in_row

pub not_itself : (b : Bool) → b ≡ not b → ⊥
not_itself true e = cc
not_itself false e = cc

pub same_black : (a b : Bool) → beq a b ≡ true → a ≡ b
same_black true true e = refl
same_black true false e = sym e
same_black false true e = e
same_black false false e = refl
