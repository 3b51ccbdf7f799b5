use Rattle.dvi_run.proofs.Puts.{puts_twice}
use Rattle.dvi_run.proofs.note.put_page.Goals as goal

pub returns : goal.returns
returns g c = puts_twice (puts_twice c.put_place.ensures c.put_fault.ensures) c.put.ensures
