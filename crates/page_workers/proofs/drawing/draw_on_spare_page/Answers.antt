use Rattle.std.proofs.lemmas.Result.{err_from_is_err_and}
use Rattle.font_decode.proofs.Trails.{trail_none}
use Rattle.page_workers.specs.Rounds.{trail_of}
use Rattle.page_workers.specs.Seats.{asked_at}
use Rattle.page_workers.proofs.NotBegun.{not_begun}
use Rattle.page_workers.proofs.drawing.draw_on_spare_page.Goals as goal

pub returns-in_err-blank-clause-value : goal.returns-in_err-blank-clause-value
returns-in_err-blank-clause-value g c =
    let p = err_from_is_err_and c.from_residual.result c.from_residual.ensures.1 in
    rw (p.1, p.2) (not_begun _ c.args.job.now.index.now c.args.job.now.sheet.now c.args.page c.args.job.now.bench.now.units _ c.args.job.now.units)

pub returns-in_err-blank-clause-trail : goal.returns-in_err-blank-clause-trail
returns-in_err-blank-clause-trail g c = trail_none _ (asked_at c.args.worker.now.seat) (trail_of g.F.FontSource.loads c.args.worker.now)
