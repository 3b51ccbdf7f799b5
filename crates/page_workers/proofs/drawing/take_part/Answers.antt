use Rattle.std.proofs.Common.{◌≡◌, true, false, rules}
use Rattle.page_workers.proofs.Parts.{ends_beyond, ends_at, goes_on, falls, may_draw_next}
use Rattle.page_workers.proofs.drawing.take_part.Goals as goal

pub draw_page-requires-clause-look_ups : goal.draw_page-requires-clause-look_ups
draw_page-requires-clause-look_ups g c =
    let may = may_draw_next g.F.FontSource.library g.F.FontSource.faults g.F.FontSource.loads c.args.job.now.bench.now c.args.job.now.index.now c.args.job.now.sheet.now c.args.round.now.counter c.args.round.now.pages.first c.args.round.now.pages.count c.args.worker.now c.loop-page.worker c.claim_page.new.worker c.loop-page.invariant c.claim_page.result c.claim_page.ensures c.in-Some.page c.in-Some.is in may.look_ups

pub draw_page-requires-clause-space : goal.draw_page-requires-clause-space
draw_page-requires-clause-space g c =
    let may = may_draw_next g.F.FontSource.library g.F.FontSource.faults g.F.FontSource.loads c.args.job.now.bench.now c.args.job.now.index.now c.args.job.now.sheet.now c.args.round.now.counter c.args.round.now.pages.first c.args.round.now.pages.count c.args.worker.now c.loop-page.worker c.claim_page.new.worker c.loop-page.invariant c.claim_page.result c.claim_page.ensures c.in-Some.page c.in-Some.is in may.space

pub returns-then-not-draw_page : goal.returns-then-not-draw_page
returns-then-not-draw_page g c =
    let broken : c.draw_page.result ≡ false = search rules in
    ends_at g.F.FontSource.library g.F.FontSource.faults g.F.FontSource.loads c.args.job.now.bench.now c.args.job.now.index.now c.args.job.now.sheet.now c.args.round.now.counter c.args.round.now.pages.first c.args.round.now.pages.count c.args.worker.now c.loop-page.worker c.claim_page.new.worker c.loop-page.invariant c.claim_page.result c.claim_page.ensures c.in-Some.page c.in-Some.is c.draw_page.new.worker c.draw_page.result c.draw_page.ensures.drew broken

pub loop-page-smaller : goal.loop-page-smaller
loop-page-smaller g c = falls g.F.FontSource.library g.F.FontSource.faults g.F.FontSource.loads c.args.job.now.bench.now c.args.job.now.index.now c.args.job.now.sheet.now c.args.round.now.counter c.args.round.now.pages.first c.args.round.now.pages.count c.args.worker.now c.loop-page.worker c.claim_page.new.worker c.loop-page.invariant c.claim_page.result c.claim_page.ensures c.in-Some.page c.in-Some.is c.draw_page.new.worker c.draw_page.result c.draw_page.ensures.drew

pub loop-page-preserved : goal.loop-page-preserved
loop-page-preserved g c =
    let whole : c.draw_page.result ≡ true = search rules in
    goes_on g.F.FontSource.library g.F.FontSource.faults g.F.FontSource.loads c.args.job.now.bench.now c.args.job.now.index.now c.args.job.now.sheet.now c.args.round.now.counter c.args.round.now.pages.first c.args.round.now.pages.count c.args.worker.now c.loop-page.worker c.claim_page.new.worker c.loop-page.invariant c.claim_page.result c.claim_page.ensures c.in-Some.page c.in-Some.is c.draw_page.new.worker c.draw_page.result c.draw_page.ensures.drew whole

pub returns : goal.returns
returns g c =
    ends_beyond g.F.FontSource.library g.F.FontSource.faults g.F.FontSource.loads c.args.job.now.bench.now c.args.job.now.index.now c.args.job.now.sheet.now c.args.round.now.counter c.args.round.now.pages.first c.args.round.now.pages.count c.args.worker.now c.loop-page.worker c.claim_page.new.worker c.loop-page.invariant c.claim_page.result c.claim_page.ensures c.in_default.is
