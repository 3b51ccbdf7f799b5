-- Rasters without pixels.
use Rattle.std.proofs.Common.{◌≡◌, ℕ, zero, suc, ◌+◌, eqb, Bool, true, false, List, [], ◌∷◌, ◌++◌, replicate, refl, sym, ap, ◌∙◌, arith}
use Rattle.std.proofs.lemmas.Bool.{or_left, or_right, eq-eqb}
use Rattle.std.proofs.lemmas.List.{replicate_more}
use Rattle.packed_rows.specs.Bitmap.{Bitmap, from_fn}
use Rattle.packed_rows.specs.Changes.{white_bitmap}
use Rattle.pk_runs.specs.Raster.{is_empty, HasRows, IsRaster}

abbrev no_rows : ℕ → List (List Bool)
no_rows h = replicate h []

empty_rows : (h : ℕ) → from_fn h (λ y. from_fn 0 (λ x. false)) ≡ no_rows h
empty_rows zero = refl
empty_rows (suc h) =
    let one_more : h + 1 ≡ suc h = omega arith in
    ap (λ l. l ++ [] ∷ []) (empty_rows h) ∙ replicate_more h [] ∙ ap no_rows one_more

as_raster : (bytes : List ℕ) (dyn_f : ℕ) (first : Bool) (w h : ℕ) (b : Bitmap) → is_empty w h ≡ true → HasRows w h b (no_rows h) → IsRaster bytes dyn_f first w h b
as_raster bytes dyn_f first w h b e rows = rw e rows

abbrev made : ℕ → ℕ → List (List Bool) → Bitmap
made w h rows = record { width = w; height = h; rows = rows }

pub without_columns : (bytes : List ℕ) (dyn_f : ℕ) (first : Bool) (w h : ℕ) (b : Bitmap) → w ≡ 0 → b ≡ white_bitmap w h → IsRaster bytes dyn_f first w h b
without_columns bytes dyn_f first w h b e g = as_raster bytes dyn_f first w h b (or_left (eqb w 0) (eqb h 0) (eq-eqb w 0 e))
    (g ∙ ap (made w h) (ap (λ k. from_fn h (λ y. from_fn k (λ x. false))) e ∙ empty_rows h))

pub without_rows : (bytes : List ℕ) (dyn_f : ℕ) (first : Bool) (w h : ℕ) (b : Bitmap) → h ≡ 0 → b ≡ white_bitmap w h → IsRaster bytes dyn_f first w h b
without_rows bytes dyn_f first w h b e g = as_raster bytes dyn_f first w h b (or_right (eqb w 0) (eqb h 0) (eq-eqb h 0 e))
    (g ∙ ap (made w h) (ap (λ k. from_fn k (λ y. from_fn w (λ x. false))) e ∙ sym (ap no_rows e)))
