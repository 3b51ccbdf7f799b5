use Rattle.std.proofs.Common.{length, map}
use Rattle.pk_runs.specs.Given.{pixel_at}
use Rattle.pk_runs.proofs.Complete.{IsPlainTo}
use Rattle.pk_runs.proofs.given.paint_rows.Given as goal

abbrev pub invariant-loop-place : goal.invariant-loop-place
invariant-loop-place l = IsPlainTo (pixel_at l.w (map (λ row. row.items) l.rows)) l.w (length l.rows) l.place l.bits
