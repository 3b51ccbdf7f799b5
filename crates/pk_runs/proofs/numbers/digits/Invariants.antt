use Rattle.pk_runs.proofs.Hex.{ReadsDigits}
use Rattle.pk_runs.proofs.numbers.digits.Given as goal

abbrev pub invariant-loop-left : goal.invariant-loop-left
invariant-loop-left l = ReadsDigits l.fn.nybbles l.fn.first l.fn.count l.left l.value l.nybbles

abbrev pub decreases-loop-left : goal.decreases-loop-left
decreases-loop-left l = l.left
