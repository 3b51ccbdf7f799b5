use Rattle.std.proofs.Common.{None, refl, sym, ap, ◌∙◌, subst}
use Rattle.std.specs.Arc.{arc_value}
use Rattle.cache_core.specs.States.{Cache, call, answered}
use Rattle.cache_core.specs.Machine.{claim_of}
use Rattle.font_cache.proofs.Turns.{claim_is_own, saw_more, turn_begins, turn_grows, noted_turn}
use Rattle.turn_lock.specs.Histories.{Grows}
use Rattle.font_cache.proofs.cache.FontCache.look.Goals as goal

pub look-reply-requires-clause-free : goal.look-reply-requires-clause-free
look-reply-requires-clause-free g c =
    let was = c.args.seat.now.view in
    ap (λ (s : Cache g.row.T.Denot). claim_of c.number.result s.claims) c.deref_mut.ensures.value
    ∙ claim_is_own c.histories.ensures.claims g.T.Stands.stands_for g.T.Stands.weighs c.take-state.result.value was.part c.number.result was.number was.seen None
    c.take-state.ensures.stands (c.number.ensures ∙ ap (λ v. v.number) c.take-state.ensures.seen) c.take-state.ensures.own c.requires.free

pub give-requires-clause-grows : goal.give-requires-clause-grows
give-requires-clause-grows g c =
    let is = c.deref_mut.ensures.value in
    subst (λ v. Grows v.number v.seen c.look-reply.new.self.history) (sym c.take-state.ensures.seen)
    (turn_grows (λ r. call c.number.result (arc_value c.args.key.now) (answered r)) c.take-state.result.value c.look-reply.new.self c.args.seat.now.view.number c.look-reply.result
    (λ r. c.number.ensures ∙ ap (λ v. v.number) c.take-state.ensures.seen) (rw is at c.look-reply.ensures.noted) (rw is at c.look-reply.ensures.refused))

pub returns-clause-seen : goal.returns-clause-seen
returns-clause-seen g c =
    let is = c.deref_mut.ensures.value in
    saw_more c.args.seat.now c.take-state.new.seat c.give.new.seat _ _ _ c.take-state.ensures.seen c.give.ensures.seen g.T.Stands.stands_for g.T.Stands.weighs c.take-state.result.value c.look-reply.new.self refl
    c.take-state.ensures.stands c.look-reply.ensures.reached (rw is at c.look-reply.ensures.limits)
    (turn_begins (λ r. call c.number.result (arc_value c.args.key.now) (answered r)) c.take-state.result.value c.look-reply.new.self c.args.seat.now.view.seen c.look-reply.result
    c.take-state.ensures.begins (rw is at c.look-reply.ensures.noted) (rw is at c.look-reply.ensures.refused))
    c.take-state.ensures.joined c.give.ensures.joined

pub returns-clause-noted : goal.returns-clause-noted
returns-clause-noted g c =
    let is = c.deref_mut.ensures.value in
    noted_turn c.own_calls.ensures.joined g.T.Stands.stands_for g.T.Stands.weighs c.take-state.result.value c.look-reply.new.self (arc_value c.args.key.now) c.number.result c.args.seat.now.view c.give.new.seat.view
    (c.number.ensures ∙ ap (λ v. v.number) c.take-state.ensures.seen) c.take-state.ensures.stands c.take-state.ensures.begins c.take-state.ensures.own (ap (λ v. v.seen) c.give.ensures.seen)
    answered c.look-reply.result (rw is at c.look-reply.ensures.taken) (rw is at c.look-reply.ensures.noted)
