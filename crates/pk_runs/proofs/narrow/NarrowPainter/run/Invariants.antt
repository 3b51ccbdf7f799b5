use Rattle.pk_runs.proofs.Overruns.{RunsWhole}
use Rattle.pk_runs.proofs.narrow.NarrowPainter.run.Given as goal

abbrev pub invariant-loop-left : goal.invariant-loop-left
invariant-loop-left l = RunsWhole l.n l.fn.self l.left l.self

abbrev pub decreases-loop-left : goal.decreases-loop-left
decreases-loop-left l = l.left
