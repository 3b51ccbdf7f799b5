use Rattle.std.proofs.Common.{ℕ, ◌<◌, ◌≤◌, get_or}
use Rattle.std.specs.Prelude.{◌^◌}
use Rattle.job_spool.proofs.drawing.have_room.Given as goal

abbrev pub invariant-loop-worker : goal.invariant-loop-worker
invariant-loop-worker g l = (k : ℕ) (d : _) → k < l.worker-index → (get_or l.workers k d).loads ≤ 2 ^ 61
