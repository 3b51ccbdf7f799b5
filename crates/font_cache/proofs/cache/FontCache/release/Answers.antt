use Rattle.std.proofs.Common.{Some, refl, sym, ap, ◌∙◌, subst}
use Rattle.std.specs.Arc.{arc_value}
use Rattle.cache_core.specs.declared.calls.Done.TheVariants.{Released}
use Rattle.cache_core.specs.Machine.{claim_of}
use Rattle.cache_core.specs.States.{Cache, call}
use Rattle.font_cache.proofs.Turns.{claim_is_own, saw_more, longer_begins, one_grows, noted_call}
use Rattle.turn_lock.specs.Histories.{Grows}
use Rattle.font_cache.proofs.cache.FontCache.release.Goals as goal

pub release-requires-clause-claim : goal.release-requires-clause-claim
release-requires-clause-claim g c =
    let was = c.args.seat.now.view in
    ap (λ (s : Cache g.row.T.Denot). claim_of c.number.result s.claims) c.deref_mut.ensures.value
    ∙ claim_is_own c.histories.ensures.claims g.T.Stands.stands_for g.T.Stands.weighs c.take-state.result.value was.part c.number.result was.number was.seen (Some (arc_value c.args.key.now))
    c.take-state.ensures.stands (c.number.ensures ∙ ap (λ v. v.number) c.take-state.ensures.seen) c.take-state.ensures.own c.requires.claim

pub give-requires-clause-grows : goal.give-requires-clause-grows
give-requires-clause-grows g c =
    let is = c.deref_mut.ensures.value in
    subst (λ v. Grows v.number v.seen c.release.new.self.history) (sym c.take-state.ensures.seen)
    (one_grows c.args.seat.now.view.number c.take-state.result.value.history c.release.new.self.history (call c.number.result (arc_value c.args.key.now) Released)
    (c.number.ensures ∙ ap (λ v. v.number) c.take-state.ensures.seen) (rw is at c.release.ensures.noted))

pub returns-clause-seen : goal.returns-clause-seen
returns-clause-seen g c =
    let is = c.deref_mut.ensures.value in
    saw_more c.args.seat.now c.take-state.new.seat c.give.new.seat _ _ _ c.take-state.ensures.seen c.give.ensures.seen g.T.Stands.stands_for g.T.Stands.weighs c.take-state.result.value c.release.new.self refl
    c.take-state.ensures.stands c.release.ensures.reached (rw is at c.release.ensures.limits)
    (longer_begins c.args.seat.now.view.seen c.take-state.result.value.history c.release.new.self.history _ c.take-state.ensures.begins (rw is at c.release.ensures.noted))
    c.take-state.ensures.joined c.give.ensures.joined

pub returns-clause-noted : goal.returns-clause-noted
returns-clause-noted g c =
    let is = c.deref_mut.ensures.value in
    noted_call c.own_calls.ensures.joined g.T.Stands.stands_for g.T.Stands.weighs c.take-state.result.value c.release.new.self (arc_value c.args.key.now) c.number.result c.args.seat.now.view c.give.new.seat.view
    (c.number.ensures ∙ ap (λ v. v.number) c.take-state.ensures.seen) c.take-state.ensures.stands c.take-state.ensures.begins c.take-state.ensures.own (ap (λ v. v.seen) c.give.ensures.seen)
    Released (rw is at c.release.ensures.taken) (rw is at c.release.ensures.noted)
