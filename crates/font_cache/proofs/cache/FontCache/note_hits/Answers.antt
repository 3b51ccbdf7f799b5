use Rattle.std.proofs.Common.{◌≡◌, None, map, refl, sym, ap, ◌∙◌, subst}
use Rattle.std.specs.Arc.{arc_value}
use Rattle.cache_core.specs.Machine.{claim_of}
use Rattle.cache_core.specs.States.{Cache}
use Rattle.font_cache.proofs.NotedLooks.{hits_begin, hits_grow, looks_noted, stops_if}
use Rattle.font_cache.proofs.Turns.{claim_is_own, saw_more}
use Rattle.turn_lock.specs.Histories.{Grows}
use Rattle.font_cache.proofs.cache.FontCache.note_hits.Goals as goal

pub note_hits-result-requires-clause-free : goal.note_hits-result-requires-clause-free
note_hits-result-requires-clause-free g c =
    let was = c.args.seat.now.view in
    ap (λ (s : Cache g.row.T.Denot). claim_of c.number.result s.claims) c.deref_mut.ensures.value
    ∙ claim_is_own c.histories.ensures.claims g.T.Stands.stands_for g.T.Stands.weighs c.take-state.result.value was.part c.number.result was.number was.seen None
    c.take-state.ensures.stands (c.number.ensures ∙ ap (λ v. v.number) c.take-state.ensures.seen) c.take-state.ensures.own c.requires.free

pub give-requires-clause-grows : goal.give-requires-clause-grows
give-requires-clause-grows g c =
    let is = c.deref_mut.ensures.value in
    subst (λ v. Grows v.number v.seen c.note_hits-result.new.self.history) (sym c.take-state.ensures.seen)
    (hits_grow g.T.Stands.weighs c.take-state.result.value c.note_hits-result.new.self c.number.result (map arc_value c.args.keys.now.items) (map arc_value c.note_hits-result.new.keys.items) (c.note_hits-result.new.keys ≡ c.args.keys.now) c.note_hits-result.result
    (rw is at c.note_hits-result.ensures.noted) (rw is at c.note_hits-result.ensures.refused) c.args.seat.now.view.number (c.number.ensures ∙ ap (λ v. v.number) c.take-state.ensures.seen))

pub returns-clause-seen : goal.returns-clause-seen
returns-clause-seen g c =
    let is = c.deref_mut.ensures.value in
    saw_more c.args.seat.now c.take-state.new.seat c.give.new.seat _ _ _ c.take-state.ensures.seen c.give.ensures.seen g.T.Stands.stands_for g.T.Stands.weighs c.take-state.result.value c.note_hits-result.new.self refl
    c.take-state.ensures.stands c.note_hits-result.ensures.reached (rw is at c.note_hits-result.ensures.limits)
    (hits_begin g.T.Stands.weighs c.take-state.result.value c.note_hits-result.new.self c.number.result (map arc_value c.args.keys.now.items) (map arc_value c.note_hits-result.new.keys.items) (c.note_hits-result.new.keys ≡ c.args.keys.now) c.note_hits-result.result
    (rw is at c.note_hits-result.ensures.noted) (rw is at c.note_hits-result.ensures.refused) c.args.seat.now.view.seen c.take-state.ensures.begins)
    c.take-state.ensures.joined c.give.ensures.joined

pub returns-clause-noted : goal.returns-clause-noted
returns-clause-noted g c =
    let is = c.deref_mut.ensures.value in
    looks_noted g.T.Stands.weighs c.take-state.result.value c.note_hits-result.new.self (map arc_value c.args.keys.now.items) (map arc_value c.note_hits-result.new.keys.items) c.own_calls.ensures.joined c.own_calls.ensures.alone
    g.T.Stands.stands_for c.number.result c.args.seat.now.view c.give.new.seat.view (c.number.ensures ∙ ap (λ v. v.number) c.take-state.ensures.seen) c.take-state.ensures.stands c.take-state.ensures.begins c.take-state.ensures.own (ap (λ v. v.seen) c.give.ensures.seen)
    c.requires.free c.note_hits-result.result (rw is at c.note_hits-result.ensures.noted)

pub returns-clause-stops : goal.returns-clause-stops
returns-clause-stops g c =
    let is = c.deref_mut.ensures.value in
    stops_if g.T.Stands.weighs c.take-state.result.value c.note_hits-result.new.self (map arc_value c.args.keys.now.items) (map arc_value c.note_hits-result.new.keys.items) c.give.new.seat.view
    c.args.seat.now.view.part ((rw is at c.note_hits-result.ensures.limits) ∙ c.take-state.ensures.stands.limits)
    (ap (λ v. v.part) c.give.ensures.seen ∙ ap (λ v. v.part) c.take-state.ensures.seen)
    (ap (λ v. v.seen) c.give.ensures.seen) c.note_hits-result.ensures.reached c.note_hits-result.result c.note_hits-result.ensures.stops
