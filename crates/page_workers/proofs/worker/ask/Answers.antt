use Rattle.std.proofs.Common.{refl, inr}
use Rattle.std.specs.Arc.{arc_value}
use Rattle.page_workers.proofs.Calls.{no_call, refused_grew, on_ok, on_err}
use Rattle.page_workers.proofs.worker.ask.Goals as goal

pub returns-in_err-look-clause-trail : goal.returns-in_err-look-clause-trail
returns-in_err-look-clause-trail g c =
    let k = arc_value c.args.key.now in
    refused_grew _ k c.args.seat.now c.look.new.seat (g.F.FontSource.loads c.args.source.now) (g.F.FontSource.loads c.args.source.now) c.args.loads.now c.args.loads.now
    (no_call c.args.seat.now c.look.new.seat c.look.ensures.turn.number c.look.ensures.turn.common_part c.in_err-look.ensures.refused) refl refl

pub returns-clause-asked : goal.returns-clause-asked
returns-clause-asked g c =
    on_ok _ c.answer.result (c.answer.ensures.asked c.args.seat.now (record { turn = c.look.ensures.turn; noted = c.in_ok-look.ensures.noted }))

pub returns-clause-refused : goal.returns-clause-refused
returns-clause-refused g c =
    on_err _ c.answer.result (inr (c.answer.ensures.asked c.args.seat.now (record { turn = c.look.ensures.turn; noted = c.in_ok-look.ensures.noted })))

pub returns-clause-trail : goal.returns-clause-trail
returns-clause-trail g c = c.answer.ensures.trail c.args.seat.now (record { turn = c.look.ensures.turn; noted = c.in_ok-look.ensures.noted })
