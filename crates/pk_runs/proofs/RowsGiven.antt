-- Rasters painted from given rows.
use Rattle.std.proofs.Common.{◌≡◌, ℕ, zero, suc, ◌+◌, ◌*◌, ◌/◌, ◌%◌, ◌<◌, ◌≤◌, Bool, false, List, [], length, get_or, map, refl, sym, ap, ◌∙◌, arith, Vec, Global}
use Rattle.std.proofs.lemmas.List.{length-map, get_or-map}
use Rattle.std.proofs.lemmas.Nat.{div-mul-add, mod-mul-add, div_below}
use Rattle.packed_rows.specs.Bitmap.{Bitmap, IsShaped}
use Rattle.pk_runs.specs.Given.{rows_width, bitmap_of_rows, pixel_at}
use Rattle.pk_runs.specs.Limits.{MAX_GLYPH_SIDE}
use Rattle.pk_runs.proofs.Complete.{IsPlainTo, given_all}

abbrev values_of_rows : List (Vec Bool Global) → List (List Bool)
values_of_rows rows = map (λ (v : Vec Bool Global). v.items) rows

-- where there is a place there are columns
pub some_columns : (w n k : ℕ) → k < w * n → 1 ≤ w
some_columns zero n k h = absurd (omega (arith, h))
some_columns (suc w) n k h = omega arith

pub row_length : (rows : List (Vec Bool Global)) (row : Vec Bool Global) (w y : ℕ) → y < length rows → row ≡ get_or rows y row
    → ((r : ℕ) → r < length rows → length (get_or (map (λ v. v.items) rows) r []) ≡ w) → length row.items ≡ w
row_length rows row w y inside e equal = ap (λ (v : Vec Bool Global). length v.items) e ∙ ap length (sym (get_or-map (λ (v : Vec Bool Global). v.items) rows y row [] inside)) ∙ equal y inside

pub on_raster : (w n k : ℕ) → k < w * n → k / w < n
on_raster w n k h = div_below k w n (some_columns w n k h) (omega (arith, h))

pub rows_painted : (rows : List (Vec Bool Global)) (w k : ℕ) (b : Bitmap) → w ≡ rows_width (map (λ v. v.items) rows) → w * length rows ≤ k
    → ((r : ℕ) → r < length rows → length (get_or (map (λ v. v.items) rows) r []) ≡ w) → IsPlainTo (pixel_at w (map (λ v. v.items) rows)) w (length rows) k b → b ≡ bitmap_of_rows (map (λ v. v.items) rows)
rows_painted rows w k b size all equal d =
    given_all (pixel_at w (values_of_rows rows)) w (length rows) k b (values_of_rows rows) all high equal
    (λ x y in_row inside. ap (λ r. get_or (get_or (values_of_rows rows) r []) ((y * w + x) % w) false) (div-mul-add y w x in_row) ∙ ap (λ c. get_or (get_or (values_of_rows rows) y []) c false) (mod-mul-add y w x in_row)) d
    ∙ ap (λ n. make n (length rows) (values_of_rows rows)) size ∙ ap (λ n. make (rows_width (values_of_rows rows)) n (values_of_rows rows)) (sym high)
  where
    high : length (map (λ (v : Vec Bool Global). v.items) rows) ≡ length rows
    high = length-map rows (λ (v : Vec Bool Global). v.items)

    make : ℕ → ℕ → List (List Bool) → Bitmap
    make n m r = record { width = n; height = m; rows = r }

-- a bitmap of rows of one length is as a raster is to be
pub given_rows : (rows : List (Vec Bool Global)) (b : Bitmap) → b ≡ bitmap_of_rows (map (λ v. v.items) rows) → rows_width (map (λ v. v.items) rows) ≤ MAX_GLYPH_SIDE → length rows ≤ MAX_GLYPH_SIDE
    → ((y : ℕ) → y < length rows → length (get_or (map (λ v. v.items) rows) y []) ≡ rows_width (map (λ v. v.items) rows)) → (b.width ≤ MAX_GLYPH_SIDE) × (b.height ≤ MAX_GLYPH_SIDE) × IsShaped b
given_rows rows b is narrow low equal = rw is (
  narrow,
  omega (arith, low, high),
  record { rows = refl; columns = λ y inside. equal y (omega (arith, inside, high)) },
)
  where
    high : length (map (λ (v : Vec Bool Global). v.items) rows) ≡ length rows
    high = length-map rows (λ (v : Vec Bool Global). v.items)
