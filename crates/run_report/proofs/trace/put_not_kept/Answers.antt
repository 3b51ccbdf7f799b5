use Rattle.run_report.proofs.Joined.{puts_twice}
use Rattle.run_report.proofs.trace.put_not_kept.Goals as goal

pub returns : goal.returns
returns g c = puts_twice (puts_twice c.put.ensures c.put_key.ensures) c.put-2.ensures
