use Rattle.pk_runs.proofs.Hex.{passes_all}
use Rattle.pk_runs.proofs.numbers.pass_zeros.Goals as goal

pub returns-in_err-nybble-2 : goal.returns-in_err-nybble-2
returns-in_err-nybble-2 c = rw c.from_residual-in_err-nybble-2.ensures
    (passes_all c.args.nybbles.now c.loop-nybble.count c.loop-nybble.nybble c.loop-nybble.nybbles c.loop-nybble-test.true c.in_err-nybble-2.ensures.cases.0 c.loop-nybble.invariant)
