use Rattle.dvi_run.proofs.Puts.{puts_twice}
use Rattle.dvi_run.proofs.texts.name.put_name.Goals as goal

pub returns : goal.returns
returns g c = puts_twice (puts_twice (puts_twice c.put.ensures c.put_any.ensures) c.put-2.ensures) c.put_any-2.ensures
