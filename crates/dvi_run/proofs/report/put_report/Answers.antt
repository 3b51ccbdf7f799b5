use Rattle.dvi_run.proofs.Puts.{puts_twice}
use Rattle.dvi_run.proofs.report.put_report.Goals as goal

pub returns-in-None : goal.returns-in-None
returns-in-None g c = rw c.in-None.is c.put_end.ensures

pub returns-in-Some : goal.returns-in-Some
returns-in-Some g c = rw c.in-Some.is (puts_twice c.put_trace_and_summary.ensures c.put_end-in-Some.ensures)
