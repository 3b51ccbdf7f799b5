use Rattle.std.proofs.Common.{◌≡◌, true, false, rules}
use Rattle.page_workers.proofs.HandedParts.{hand_begins, hand_ends_at, hand_ends_beyond, hand_falls, hand_goes_on, hand_may_ask, hand_may_note, hand_may_send}
use Rattle.page_workers.proofs.handing.hand_part.Goals as goal

pub loop-page-init : goal.loop-page-init
loop-page-init g c = hand_begins g.F.FontSource.library g.F.FontSource.faults g.F.FontSource.loads c.args.job.now.bench.now c.args.job.now.index.now c.args.job.now.sheet.now c.args.round.now.counter c.args.round.now.pages.first c.args.round.now.pages.count c.args.worker.now c.requires.ready c.requires.outlet c.requires.unsent

pub hand_page-requires-clause-look_ups : goal.hand_page-requires-clause-look_ups
hand_page-requires-clause-look_ups g c = hand_may_ask g.F.FontSource.library g.F.FontSource.faults g.F.FontSource.loads c.args.job.now.bench.now c.args.job.now.index.now c.args.job.now.sheet.now c.args.round.now.counter c.args.round.now.pages.first c.args.round.now.pages.count c.args.worker.now c.loop-page.worker c.claim_page.new.worker c.loop-page.invariant c.claim_page.result c.claim_page.ensures c.in-Some.page c.in-Some.is

pub hand_page-requires-clause-space : goal.hand_page-requires-clause-space
hand_page-requires-clause-space g c = hand_may_note g.F.FontSource.library g.F.FontSource.faults g.F.FontSource.loads c.args.job.now.bench.now c.args.job.now.index.now c.args.job.now.sheet.now c.args.round.now.counter c.args.round.now.pages.first c.args.round.now.pages.count c.args.worker.now c.loop-page.worker c.claim_page.new.worker c.loop-page.invariant c.claim_page.result c.claim_page.ensures c.in-Some.page c.in-Some.is

pub hand_page-requires-clause-outlet : goal.hand_page-requires-clause-outlet
hand_page-requires-clause-outlet g c = hand_may_send g.F.FontSource.library g.F.FontSource.faults g.F.FontSource.loads c.args.job.now.bench.now c.args.job.now.index.now c.args.job.now.sheet.now c.args.round.now.counter c.args.round.now.pages.first c.args.round.now.pages.count c.args.worker.now c.loop-page.worker c.claim_page.new.worker c.loop-page.invariant c.claim_page.result c.claim_page.ensures c.in-Some.page c.in-Some.is

pub returns-then-not-hand_page : goal.returns-then-not-hand_page
returns-then-not-hand_page g c =
    let broken : c.hand_page.result ≡ false = search rules in
    hand_ends_at g.F.FontSource.library g.F.FontSource.faults g.F.FontSource.loads c.args.job.now.bench.now c.args.job.now.index.now c.args.job.now.sheet.now c.args.round.now.counter c.args.round.now.pages.first c.args.round.now.pages.count c.args.worker.now c.loop-page.worker c.claim_page.new.worker c.loop-page.invariant c.claim_page.result c.claim_page.ensures c.in-Some.page c.in-Some.is c.hand_page.new.worker c.hand_page.result c.hand_page.ensures.drew c.hand_page.ensures.outlet broken

pub loop-page-smaller : goal.loop-page-smaller
loop-page-smaller g c = hand_falls g.F.FontSource.library g.F.FontSource.faults g.F.FontSource.loads c.args.job.now.bench.now c.args.job.now.index.now c.args.job.now.sheet.now c.args.round.now.counter c.args.round.now.pages.first c.args.round.now.pages.count c.args.worker.now c.loop-page.worker c.claim_page.new.worker c.loop-page.invariant c.claim_page.result c.claim_page.ensures c.in-Some.page c.in-Some.is c.hand_page.new.worker c.hand_page.result c.hand_page.ensures.drew c.hand_page.ensures.outlet

pub loop-page-preserved : goal.loop-page-preserved
loop-page-preserved g c =
    let whole : c.hand_page.result ≡ true = search rules in
    hand_goes_on g.F.FontSource.library g.F.FontSource.faults g.F.FontSource.loads c.args.job.now.bench.now c.args.job.now.index.now c.args.job.now.sheet.now c.args.round.now.counter c.args.round.now.pages.first c.args.round.now.pages.count c.args.worker.now c.loop-page.worker c.claim_page.new.worker c.loop-page.invariant c.claim_page.result c.claim_page.ensures c.in-Some.page c.in-Some.is c.hand_page.new.worker c.hand_page.result c.hand_page.ensures.drew c.hand_page.ensures.outlet whole

pub returns : goal.returns
returns g c = hand_ends_beyond g.F.FontSource.library g.F.FontSource.faults g.F.FontSource.loads c.args.job.now.bench.now c.args.job.now.index.now c.args.job.now.sheet.now c.args.round.now.counter c.args.round.now.pages.first c.args.round.now.pages.count c.args.worker.now c.loop-page.worker c.claim_page.new.worker c.loop-page.invariant c.claim_page.result c.claim_page.ensures c.in_default.is
