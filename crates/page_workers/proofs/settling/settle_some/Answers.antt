use Rattle.std.proofs.Common.{◌≡◌, ◌+◌, Some, length, refl, sym, ap, subst, ◌∙◌, arith}
use Rattle.std.proofs.lemmas.List.Elements.{All-rest}
use Rattle.std.specs.Arc.{arc_value}
use Rattle.std.specs.Prelude.{IsOk, is_ok}
use Rattle.cache_core.specs.States.{answered}
use Rattle.outside.specs.FontKeys.{IsFontKey}
use Rattle.page_workers.specs.Seats.{asked_with}
use Rattle.page_workers.proofs.Calls.{no_call, refused_grew}
use Rattle.page_workers.proofs.Settled.{AreKeys, front_noted, left_asked, left_few, left_keys, left_trail, looked_front, same_asked, same_trail}
use Rattle.page_workers.proofs.settling.settle_some.Goals as goal

pub returns-in_err-look-clause-trail : goal.returns-in_err-look-clause-trail
returns-in_err-look-clause-trail g c =
    let loads = g.F.FontSource.loads c.args.source.now in
    refused_grew _ (arc_value c.in-Some.first.now) c.args.seat.now c.look.new.seat loads loads c.args.loads.now c.args.loads.now
    (no_call c.args.seat.now c.look.new.seat c.look.ensures.turn.number c.look.ensures.turn.common_part c.in_err-look.ensures.refused) refl refl

pub returns-in_err-answer-clause-keys : goal.returns-in_err-answer-clause-keys
returns-in_err-answer-clause-keys g c =
    All-rest (λ k. IsFontKey (arc_value k)) c.in-Some-pop_front.key c.pop_front.new.self.items c.args.keys.now.items c.in-Some-pop_front.ensures.items c.requires.keys

pub returns-in_err-answer-clause-asked : goal.returns-in_err-answer-clause-asked
returns-in_err-answer-clause-asked g c =
    let s = c.args.seat.now in
    let key = c.in-Some-pop_front.key in
    let keys = c.args.keys.now.items in
    let rest = c.pop_front.new.self.items in
    let out = c.in-Some-pop_front.ensures.items in
    let came = looked_front keys rest key c.in-Some.first.now (answered c.in_ok-look.look) s c.look.new.seat out c.in-Some.ensures.lookup c.look.ensures.turn c.in_ok-look.ensures.noted in
    front_noted keys rest key s c.answer.new.seat out (c.answer.ensures.asked s came)

pub returns-then-is_empty-clause-asked : goal.returns-then-is_empty-clause-asked
returns-then-is_empty-clause-asked g c =
    let s = c.args.seat.now in
    let key = c.in-Some-pop_front.key in
    let keys = c.args.keys.now.items in
    let rest = c.pop_front.new.self.items in
    let out = c.in-Some-pop_front.ensures.items in
    let came = looked_front keys rest key c.in-Some.first.now (answered c.in_ok-look.look) s c.look.new.seat out c.in-Some.ensures.lookup c.look.ensures.turn c.in_ok-look.ensures.noted in
    front_noted keys rest key s c.answer.new.seat out (c.answer.ensures.asked s came)

pub returns-in_err-note_hits-clause-keys : goal.returns-in_err-note_hits-clause-keys
returns-in_err-note_hits-clause-keys g c =
    let rest = All-rest (λ k. IsFontKey (arc_value k)) c.in-Some-pop_front.key c.pop_front.new.self.items c.args.keys.now.items c.in-Some-pop_front.ensures.items c.requires.keys in
    subst AreKeys (ap (λ d. d.items) (sym c.in_err-note_hits.ensures.same)) rest

pub returns-in_err-note_hits-clause-asked : goal.returns-in_err-note_hits-clause-asked
returns-in_err-note_hits-clause-asked g c =
    let s = c.args.seat.now in
    let key = c.in-Some-pop_front.key in
    let keys = c.args.keys.now.items in
    let rest = c.pop_front.new.self.items in
    let out = c.in-Some-pop_front.ensures.items in
    let a = c.answer.new.seat in
    let t = c.note_hits.new.seat in
    let came = looked_front keys rest key c.in-Some.first.now (answered c.in_ok-look.look) s c.look.new.seat out c.in-Some.ensures.lookup c.look.ensures.turn c.in_ok-look.ensures.noted in
    ap (λ d. asked_with (Some t) d.items) c.in_err-note_hits.ensures.same
    ∙ (same_asked a t c.note_hits.ensures.turn c.in_err-note_hits.ensures.refused rest ∙ front_noted keys rest key s a out (c.answer.ensures.asked s came))

pub returns-in_err-note_hits-clause-trail : goal.returns-in_err-note_hits-clause-trail
returns-in_err-note_hits-clause-trail g c =
    let s = c.args.seat.now in
    let key = c.in-Some-pop_front.key in
    let keys = c.args.keys.now.items in
    let rest = c.pop_front.new.self.items in
    let out = c.in-Some-pop_front.ensures.items in
    let loads = g.F.FontSource.loads in
    let came = looked_front keys rest key c.in-Some.first.now (answered c.in_ok-look.look) s c.look.new.seat out c.in-Some.ensures.lookup c.look.ensures.turn c.in_ok-look.ensures.noted in
    same_trail c.answer.new.seat c.note_hits.new.seat c.note_hits.ensures.turn c.in_err-note_hits.ensures.refused (IsOk c.answer.result) _ (arc_value key) s (loads c.args.source.now)
    (loads c.answer.new.source) c.args.loads.now c.answer.new.loads (ap (λ r. is_ok r) c.in_ok-answer.was) (c.answer.ensures.trail s came)

pub returns-clause-keys : goal.returns-clause-keys
returns-clause-keys g c =
    let rest = c.pop_front.new.self.items in
    let keys = All-rest (λ k. IsFontKey (arc_value k)) c.in-Some-pop_front.key rest c.args.keys.now.items c.in-Some-pop_front.ensures.items c.requires.keys in
    left_keys rest c.note_hits.new.keys.items c.answer.new.seat c.note_hits.new.seat c.in_ok-note_hits.ensures.noted keys

pub returns-clause-few : goal.returns-clause-few
returns-clause-few g c =
    let few = left_few c.pop_front.new.self.items c.note_hits.new.keys.items c.answer.new.seat c.note_hits.new.seat c.in_ok-note_hits.ensures.noted in
    let out : length c.args.keys.now.items ≡ length c.pop_front.new.self.items + 1 = ap length c.in-Some-pop_front.ensures.items ∙ omega arith in
    omega (arith, few, out)

pub returns-clause-fewer : goal.returns-clause-fewer
returns-clause-fewer g c =
    let few = left_few c.pop_front.new.self.items c.note_hits.new.keys.items c.answer.new.seat c.note_hits.new.seat c.in_ok-note_hits.ensures.noted in
    let out : length c.args.keys.now.items ≡ length c.pop_front.new.self.items + 1 = ap length c.in-Some-pop_front.ensures.items ∙ omega arith in
    omega (arith, few, out)

pub returns-clause-asked : goal.returns-clause-asked
returns-clause-asked g c =
    let s = c.args.seat.now in
    let key = c.in-Some-pop_front.key in
    let keys = c.args.keys.now.items in
    let rest = c.pop_front.new.self.items in
    let out = c.in-Some-pop_front.ensures.items in
    let a = c.answer.new.seat in
    let came = looked_front keys rest key c.in-Some.first.now (answered c.in_ok-look.look) s c.look.new.seat out c.in-Some.ensures.lookup c.look.ensures.turn c.in_ok-look.ensures.noted in
    left_asked rest c.note_hits.new.keys.items a c.note_hits.new.seat c.in_ok-note_hits.ensures.noted c.note_hits.ensures.turn ∙ front_noted keys rest key s a out (c.answer.ensures.asked s came)

pub returns-clause-trail : goal.returns-clause-trail
returns-clause-trail g c =
    let s = c.args.seat.now in
    let key = c.in-Some-pop_front.key in
    let keys = c.args.keys.now.items in
    let rest = c.pop_front.new.self.items in
    let out = c.in-Some-pop_front.ensures.items in
    let loads = g.F.FontSource.loads in
    let came = looked_front keys rest key c.in-Some.first.now (answered c.in_ok-look.look) s c.look.new.seat out c.in-Some.ensures.lookup c.look.ensures.turn c.in_ok-look.ensures.noted in
    left_trail rest c.note_hits.new.keys.items c.answer.new.seat c.note_hits.new.seat c.in_ok-note_hits.ensures.noted c.note_hits.ensures.turn (IsOk c.answer.result) _ s (loads c.args.source.now)
    (loads c.answer.new.source) c.args.loads.now c.answer.new.loads (ap (λ r. is_ok r) c.in_ok-answer.was) (c.answer.ensures.trail s came)
