use Rattle.dvi_run.proofs.Puts.{puts_as, puts_twice}
use Rattle.dvi_run.proofs.texts.page.put_font.Goals as goal

pub returns : goal.returns
returns g c = puts_twice (puts_twice (puts_twice c.put.ensures c.put_key.ensures) c.put-2.ensures) (puts_as c.font_name.ensures c.put_name.ensures)
