use Rattle.dvi_run.proofs.Puts.{puts_twice}
use Rattle.job_spool.proofs.notes.put_notes.Goals as goal

pub returns : goal.returns
returns g c = puts_twice c.put_jobs.ensures c.put_counts.ensures
