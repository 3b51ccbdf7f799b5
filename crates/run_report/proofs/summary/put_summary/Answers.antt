use Rattle.run_report.proofs.Joined.{puts_twice}
use Rattle.run_report.proofs.summary.put_summary.Goals as goal

pub returns : goal.returns
returns g c = puts_twice (puts_twice (puts_twice c.put_line.ensures c.put_calls.ensures) c.put_line-2.ensures) c.put_line-3.ensures
