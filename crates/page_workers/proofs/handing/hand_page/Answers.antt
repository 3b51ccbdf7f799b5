use Rattle.page_workers.proofs.Handed.{handed_next, handed_then, may_hand_on, outlet_then, sends_self, still_has_outlet}
use Rattle.page_workers.proofs.Sending.{spare_self}
use Rattle.page_workers.proofs.handing.hand_page.Goals as goal

pub returns-clause-drew : goal.returns-clause-drew
returns-clause-drew g c =
    handed_then g.F.FontSource.library g.F.FontSource.faults g.F.FontSource.loads c.args.job.now.bench.now c.args.job.now.index.now c.args.job.now.sheet.now c.args.page c.draw_page-has_bitmap.result c.args.worker.now c.hand_on.new.self c.wait_for_room.new.self c.wait_for_room.ensures.same c.wait_for_room.ensures.outlet
    (handed_next g.F.FontSource.library g.F.FontSource.faults g.F.FontSource.loads c.args.job.now.bench.now c.args.job.now.index.now c.args.job.now.sheet.now c.args.page c.draw_page-has_bitmap.result c.args.worker.now c.args.worker.now c.draw_page-has_bitmap.new.worker c.hand_on.new.self
    (spare_self c.args.worker.now) (sends_self c.args.worker.now.outlet) c.draw_page-has_bitmap.ensures.drew c.draw_page-has_bitmap.ensures.outlet c.draw_page-has_bitmap.ensures.results_room c.draw_page-has_bitmap.ensures.pages_room c.requires.outlet.none c.hand_on.ensures)

pub returns-clause-outlet : goal.returns-clause-outlet
returns-clause-outlet g c = λ n has.
    outlet_then c.hand_on.new.self c.wait_for_room.new.self c.wait_for_room.ensures.same c.wait_for_room.ensures.outlet n
    (still_has_outlet g.F.FontSource.library g.F.FontSource.faults g.F.FontSource.loads c.args.job.now.bench.now c.args.job.now.index.now c.args.job.now.sheet.now c.args.page c.draw_page-has_bitmap.result c.args.worker.now c.args.worker.now c.draw_page-has_bitmap.new.worker c.hand_on.new.self
    (spare_self c.args.worker.now) (sends_self c.args.worker.now.outlet) c.draw_page-has_bitmap.ensures.drew c.draw_page-has_bitmap.ensures.outlet c.draw_page-has_bitmap.ensures.results_room c.draw_page-has_bitmap.ensures.pages_room c.requires.outlet.none c.hand_on.ensures n has)

pub hand_on-requires-clause-outlet : goal.hand_on-requires-clause-outlet
hand_on-requires-clause-outlet g c = may_hand_on c.args.worker.now c.args.worker.now c.draw_page-has_bitmap.new.worker (sends_self c.args.worker.now.outlet) c.draw_page-has_bitmap.ensures.outlet c.requires.outlet
