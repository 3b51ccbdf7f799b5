use Rattle.std.proofs.Common.{Some, IfOk, refl, sym, ap, ◌∙◌, subst}
use Rattle.std.specs.Arc.{arc_value}
use Rattle.cache_core.specs.declared.calls.Done.TheVariants.{Filled}
use Rattle.cache_core.specs.States.{Cache, call}
use Rattle.font_cache.specs.Turns.{NotedCall}
use Rattle.cache_core.specs.Machine.{claim_of}
use Rattle.font_cache.proofs.Turns.{claim_is_own, saw_more, turn_begins, turn_grows, noted_turn, of_told}
use Rattle.turn_lock.specs.Histories.{Grows}
use Rattle.font_cache.proofs.cache.FontCache.fill.Goals as goal

pub fill_keeping-filled-requires-clause-claim : goal.fill_keeping-filled-requires-clause-claim
fill_keeping-filled-requires-clause-claim g c =
    let was = c.args.seat.now.view in
    ap (λ (s : Cache g.row.T.Denot). claim_of c.number.result s.claims) c.deref_mut.ensures.value
    ∙ claim_is_own c.histories.ensures.claims g.T.Stands.stands_for g.T.Stands.weighs c.take-state.result.value was.part c.number.result was.number was.seen (Some (arc_value c.args.key.now))
    c.take-state.ensures.stands (c.number.ensures ∙ ap (λ v. v.number) c.take-state.ensures.seen) c.take-state.ensures.own c.requires.claim

pub give-requires-clause-grows : goal.give-requires-clause-grows
give-requires-clause-grows g c =
    let is = c.deref_mut.ensures.value in
    subst (λ v. Grows v.number v.seen c.fill_keeping-filled.new.self.history) (sym c.take-state.ensures.seen)
    (turn_grows (λ f. call c.number.result (arc_value c.args.key.now) (Filled (g.T.Stands.weighs (arc_value c.args.value)) f.fill.kept f.fill.gone)) c.take-state.result.value c.fill_keeping-filled.new.self c.args.seat.now.view.number c.fill_keeping-filled.result
    (λ f. c.number.ensures ∙ ap (λ v. v.number) c.take-state.ensures.seen) (rw is at c.fill_keeping-filled.ensures.noted) (rw is at c.fill_keeping-filled.ensures.refused))

pub returns-clause-seen : goal.returns-clause-seen
returns-clause-seen g c =
    let is = c.deref_mut.ensures.value in
    saw_more c.args.seat.now c.take-state.new.seat c.give.new.seat _ _ _ c.take-state.ensures.seen c.give.ensures.seen g.T.Stands.stands_for g.T.Stands.weighs c.take-state.result.value c.fill_keeping-filled.new.self refl
    c.take-state.ensures.stands c.fill_keeping-filled.ensures.reached (rw is at c.fill_keeping-filled.ensures.limits)
    (turn_begins (λ f. call c.number.result (arc_value c.args.key.now) (Filled (g.T.Stands.weighs (arc_value c.args.value)) f.fill.kept f.fill.gone)) c.take-state.result.value c.fill_keeping-filled.new.self c.args.seat.now.view.seen c.fill_keeping-filled.result
    c.take-state.ensures.begins (rw is at c.fill_keeping-filled.ensures.noted) (rw is at c.fill_keeping-filled.ensures.refused))
    c.take-state.ensures.joined c.give.ensures.joined

pub returns-clause-noted : goal.returns-clause-noted
returns-clause-noted g c =
    let is = c.deref_mut.ensures.value in
    let k = arc_value c.args.key.now in
    let was = c.args.seat.now.view in
    let now = c.give.new.seat.view in
    subst (λ r. IfOk r (λ f. NotedCall k (Filled (g.T.Stands.weighs (arc_value c.args.value)) f.kept f.gone) was now)) (sym c.answer_alone.ensures)
    (of_told (λ f. NotedCall k (Filled (g.T.Stands.weighs (arc_value c.args.value)) f.kept f.gone) was now) c.fill_keeping-filled.result
    (noted_turn c.own_calls.ensures.joined g.T.Stands.stands_for g.T.Stands.weighs c.take-state.result.value c.fill_keeping-filled.new.self k c.number.result was now
    (c.number.ensures ∙ ap (λ v. v.number) c.take-state.ensures.seen) c.take-state.ensures.stands c.take-state.ensures.begins c.take-state.ensures.own (ap (λ v. v.seen) c.give.ensures.seen)
    (λ f. Filled (g.T.Stands.weighs (arc_value c.args.value)) f.fill.kept f.fill.gone) c.fill_keeping-filled.result (rw is at c.fill_keeping-filled.ensures.taken) (rw is at c.fill_keeping-filled.ensures.noted)))
