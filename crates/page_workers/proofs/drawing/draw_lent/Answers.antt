use Rattle.page_workers.proofs.Ended.{draws_first, ended_outcome}
use Rattle.page_workers.proofs.drawing.draw_lent.Goals as goal

pub draw_on-drawn-requires-clause-fits : goal.draw_on-drawn-requires-clause-fits
draw_on-drawn-requires-clause-fits g c =
    let r = c.requires in
    (draws_first _ _ _ _ _ _ _ _ _ c.new-2.ensures.items r.fits r.asked r.trail r.faults, c.new.ensures.none _ _)

pub returns-clause-value : goal.returns-clause-value
returns-clause-value g c =
    let r = c.requires in
    let d = c.draw_on-drawn.ensures in
    let e = c.end_page.ensures in
    ended_outcome _ c.args.job.now.index.now c.args.job.now.sheet.now c.args.page _ _ _ _ _ _ _ _ _ _ _ _ _ _ r.fits r.trail r.asked c.new-2.ensures.items d.drawn d.stop e.last e.trail
