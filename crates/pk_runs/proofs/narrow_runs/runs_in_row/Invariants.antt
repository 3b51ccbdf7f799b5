use Rattle.std.proofs.Common.{length}
use Rattle.pk_runs.proofs.Within.{RunsWithin}
use Rattle.pk_runs.proofs.narrow_runs.runs_in_row.Given as goal

abbrev pub invariant-loop-item : goal.invariant-loop-item
invariant-loop-item l = RunsWithin l.dyn_f l.fn.painter l.fn.nybbles l.painter l.nybbles

abbrev pub decreases-loop-item : goal.decreases-loop-item
decreases-loop-item l = length l.nybbles
