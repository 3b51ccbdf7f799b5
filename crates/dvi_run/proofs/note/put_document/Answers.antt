use Rattle.std.proofs.Common.{ap, decimal}
use Rattle.dvi_run.proofs.Puts.{puts_as, puts_twice}
use Rattle.dvi_run.proofs.note.put_document.Goals as goal

pub returns : goal.returns
returns g c =
    puts_twice (puts_twice (puts_twice (puts_twice c.put.ensures (puts_as c.doc_name.ensures c.put_name.ensures)) c.put-2.ensures) (puts_as (ap decimal c.place.ensures) c.put_number.ensures)) c.put-3.ensures
