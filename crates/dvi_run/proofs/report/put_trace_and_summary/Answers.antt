use Rattle.dvi_run.proofs.Puts.{puts_twice}
use Rattle.dvi_run.proofs.report.put_trace_and_summary.Goals as goal

pub returns : goal.returns
returns g c = puts_twice c.put_lines.ensures c.put_counts.ensures
