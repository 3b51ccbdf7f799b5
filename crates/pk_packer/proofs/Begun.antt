-- The first place of a raster.
use Rattle.std.proofs.Common.{◌≡◌, ◌∙◌, ◌⊎◌, inl, inr, ℕ, suc, ◌<◌, ◌≤◌, Bool, false, List, [], ◌∷◌, length, get_or, drop, refl, ap, subst, arith}
use Rattle.std.specs.List.{AllByRecursion}
use Rattle.packed_rows.specs.Bitmap.{Bitmap, is_black}
use Rattle.pk_runs.specs.Numbers.{Item}
use Rattle.pk_packer.specs.Places.{IsReached, items_from, row_of}
use Rattle.pk_packer.specs.Written.{Group, Progress, first_colour, pixel_rows, with_pixels, with_rows, written_rows, written_runs}
use Rattle.pk_packer.specs.declared.places.Place.{Place}
use Rattle.pk_packer.proofs.Expanded.{AreWide, IsWritten, are_written}
use Rattle.std.proofs.lemmas.Bool.{cases_lt}
use Rattle.std.proofs.lemmas.List.{get_or_past}
use Rattle.pk_packer.proofs.Pixels.{dot_seen, row_long, rows_high}

pub reached_first : (r : Bitmap) (p : Place) → p.row ≡ 0 → p.column ≡ 0 → ((items : List Item) → items_from (pixel_rows r) p items ≡ with_rows (first_colour (pixel_rows r)) items (written_rows (drop 0 (pixel_rows r)))) → IsReached r p []
unfolding written_runs
reached_first r p row column more = record {
  more = more [];
  begins = λ low. ap (λ y. get_or (row_of (pixel_rows r) y) p.column false) row ∙ ap (λ x. get_or (row_of (pixel_rows r) 0) x false) column;
}

-- ---- a raster without columns

no_pixels : (first : Bool) (row : List Bool) (s : Progress) → length row ≡ 0 → with_pixels first s row ≡ s
no_pixels first [] s e = refl
no_pixels first (p ∷ row) s e = absurd (omega (arith, e))

nothing_added : (first : Bool) (rows : List Group) (items : List Item) → AllByRecursion (IsWritten 0) rows → with_rows first items rows ≡ items
nothing_added first [] items all = refl
nothing_added first (g ∷ rows) items all =
    ap (λ (s : Progress). with_rows first s.items rows) (no_pixels first g.row (record { items = items; due = g.below }) all.0.0) ∙ nothing_added first rows items all.1

wide_all : (w : ℕ) (rows : List (List Bool)) → ((y : ℕ) → y < length rows → length (get_or rows y []) ≡ w) → AreWide w rows
wide_all w [] all = tt
wide_all w (row ∷ rows) all = (all 0 (omega arith), wide_all w rows (λ y below. all (suc y) (omega (arith, below))))

pub rows_wide : (r : Bitmap) → AreWide r.width (pixel_rows r)
rows_wide r = wide_all r.width (pixel_rows r) (λ y below. row_long r y (omega (arith, below, rows_high r)))

pub no_runs : (r : Bitmap) → r.width ≡ 0 → written_runs (pixel_rows r) ≡ []
unfolding written_runs
no_runs r e = nothing_added (first_colour (pixel_rows r)) (written_rows (pixel_rows r)) [] (subst (λ (w : ℕ). AllByRecursion (IsWritten w) (written_rows (pixel_rows r))) e (are_written r.width (pixel_rows r) (rows_wide r)))

-- ---- the first pixel

pub first_seen : (r : Bitmap) → 0 < r.width → 0 < r.height → first_colour (pixel_rows r) ≡ is_black r 0 0
first_seen r some low = dot_seen r 0 0 low some

pub first_white : (r : Bitmap) → (r.width ≡ 0) ⊎ (r.height ≡ 0) → first_colour (pixel_rows r) ≡ false
first_white r empty = by (cases_lt 0 r.height)
  where
    by : (0 < r.height) ⊎ (r.height ≤ 0) → first_colour (pixel_rows r) ≡ false
    by (inr none) = ap (λ (l : List Bool). get_or l 0 false) (get_or_past (pixel_rows r) 0 [] (omega (arith, none, rows_high r)))
    by (inl some) = elim empty [
      | inl narrow ↦ get_or_past (get_or (pixel_rows r) 0 []) 0 false (omega (arith, row_long r 0 some, narrow))
      | inr none ↦ absurd (omega (arith, none, some))
    ]
