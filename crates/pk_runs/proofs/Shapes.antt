-- Rasters have as many rows as they are high, each as long as they are wide.
use Rattle.std.proofs.Common.{◌≡◌, ◌∙◌, ◌≤◌, ◌<◌, ℕ, Bool, List, [], length, get_or, sym, ap, arith}
use Rattle.packed_rows.specs.Bitmap.{Bitmap, IsShaped, from_fn}
use Rattle.packed_rows.proofs.Lists.{length-from_fn, get_or-from_fn}
use Rattle.pk_runs.specs.Raster.{IsPlainRaster, IsRunRaster}
use Rattle.pk_runs.proofs.Sizes.{run_rasters_have_their_size}

module _ (w h : ℕ) (b : Bitmap) (wide : b.width ≡ w) (high : b.height ≡ h) where
  -- rows that are made place by place
  pub made_shaped : (f : ℕ → ℕ → Bool) → b.rows ≡ from_fn h (λ y. from_fn w (f y)) → IsShaped b
  made_shaped f made = record {
    rows = ap length made ∙ length-from_fn h (λ y. from_fn w (f y)) ∙ sym high;
    columns = λ y inside.
        ap (λ (rows : List (List Bool)). length (get_or rows y [])) made
        ∙ ap length (get_or-from_fn h (λ y. from_fn w (f y)) y [] (omega (arith, inside, high)))
        ∙ length-from_fn w (f y)
        ∙ sym wide;
  }

  pub plain_shaped : (bytes : List ℕ) → IsPlainRaster bytes w h b.rows → IsShaped b
  plain_shaped bytes plain = made_shaped _ plain.1

  pub runs_shaped : (bytes : List ℕ) (dyn_f : ℕ) (first : Bool) → 1 ≤ w → IsRunRaster bytes dyn_f first w h b.rows → IsShaped b
  runs_shaped bytes dyn_f first some runs =
      let size : (length b.rows ≡ h) × ((y : ℕ) → y < h → length (get_or b.rows y []) ≡ w) = run_rasters_have_their_size bytes dyn_f w h first b.rows some runs in
      record {
        rows = size.0 ∙ sym high;
        columns = λ y inside. size.1 y (omega (arith, inside, high)) ∙ sym wide;
      }
