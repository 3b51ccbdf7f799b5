use Rattle.std.proofs.Common.{[]}
use Rattle.page_workers.proofs.Taken.{nothing_taken}
use Rattle.page_workers.proofs.handing.draw_and_take.Goals as goal

pub returns-then-alone-clause-took : goal.returns-then-alone-clause-took
returns-then-alone-clause-took g c = ([], nothing_taken g.W.PageTaker.takes c.args.drawing.round.now.pages.first c.args.inlets.now c.requires.unreceived c.args.taker.now c.args.out.now)
