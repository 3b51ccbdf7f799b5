use Rattle.std.proofs.lemmas.Result.{err_from_is_err_and}
use Rattle.font_decode.proofs.Trails.{trail_none}
use Rattle.page_draw.proofs.Ends.{broken_at_first}
use Rattle.page_draw.proofs.drawing.draw.Goals as goal

pub returns-in_err-page-clause-stop : goal.returns-in_err-page-clause-stop
returns-in_err-page-clause-stop g c =
    let p = err_from_is_err_and c.from_residual.result c.from_residual.ensures.1 in
    rw (p.1, p.2) (broken_at_first _ c.args.index.now c.args.sheet.now c.args.i c.conv-conv.result _ c.conv-conv.ensures)

pub returns-in_err-page-clause-trail : goal.returns-in_err-page-clause-trail
returns-in_err-page-clause-trail g c = trail_none _ (g.D.Desk.asked c.args.desk.now) (g.D.Desk.trail c.args.desk.now)
