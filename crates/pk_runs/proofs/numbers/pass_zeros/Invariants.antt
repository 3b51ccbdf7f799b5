use Rattle.std.proofs.Common.{length}
use Rattle.pk_runs.proofs.Hex.{PassesZeros}
use Rattle.pk_runs.proofs.numbers.pass_zeros.Given as goal

abbrev pub invariant-loop-nybble : goal.invariant-loop-nybble
invariant-loop-nybble l = PassesZeros l.fn.nybbles l.count l.nybble l.nybbles

abbrev pub decreases-loop-nybble : goal.decreases-loop-nybble
decreases-loop-nybble l = length l.nybbles
