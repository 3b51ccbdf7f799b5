-- The size of a raster of runs.
use Rattle.std.proofs.Common.{[], length, get_or, ap, ◌∙◌, arith}
use Rattle.std.proofs.Math.Nat.{div-mul-le_self}
use Rattle.pk_runs.specs.Raster.{pixel_count, pixels, copies, next_row, RunRastersHaveTheirSize}
use Rattle.pk_runs.proofs.Shown.{length-rows}
use Rattle.pk_runs.proofs.Steps.{length-pixels}
use Rattle.pk_runs.proofs.Complete.{row_wide}

pub run_rasters_have_their_size : RunRastersHaveTheirSize
run_rasters_have_their_size bytes dyn_f w h first rows some r = (
  ap length r.stand ∙ length-rows w (pixels first r.items) (copies w r.items) (next_row w r.items) ∙ r.complete,
  λ y inside. ap (λ l. length (get_or l y [])) r.stand
      ∙ row_wide w (pixels first r.items) (copies w r.items) (next_row w r.items) y (omega (arith, div-mul-le_self (pixel_count r.items) w, length-pixels first r.items)) (omega (arith, inside, r.complete)),
)
