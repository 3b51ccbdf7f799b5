use Rattle.std.proofs.Common.{◌∙◌, Err, ap, refl}
use Rattle.page_draw.proofs.flats.draw_one.Goals as goal

pub returns-in-Err-Fault-clause-stop : goal.returns-in-Err-Fault-clause-stop
returns-in-Err-Fault-clause-stop c =
    let fault = c.in-Err-Fault.fault in
    (fault, (c.step.ensures.fault fault).0 (c.in-Err-Fault.is ∙ ap Err c.in-Err-Fault.field-0-is), refl, c.at.ensures)
