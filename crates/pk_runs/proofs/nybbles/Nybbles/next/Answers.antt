use Rattle.std.proofs.Common.{arith}
use Rattle.pk_runs.proofs.Hex.{few_nybbles}
use Rattle.pk_runs.proofs.nybbles.Nybbles.next.Goals as goal

pub returns-then-self-clause-few : goal.returns-then-self-clause-few
returns-then-self-clause-few c = few_nybbles c.self.inside.bytes.now c.args.self.now _ c.self.view_is (omega arith)

pub returns-clause-few : goal.returns-clause-few
returns-clause-few c = few_nybbles c.self.inside.bytes.now c.args.self.now _ c.self.view_is (omega arith)
