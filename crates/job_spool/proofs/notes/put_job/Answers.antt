use Rattle.dvi_run.proofs.Puts.{puts_twice}
use Rattle.job_spool.proofs.notes.put_job.Goals as goal

pub returns : goal.returns
returns g c = puts_twice (puts_twice (puts_twice (puts_twice c.put.ensures c.put_number.ensures) c.put-2.ensures) c.put_number-2.ensures) c.put-3.ensures
