use Rattle.std.proofs.Common.{rules, ◌≡◌, ℕ, ◌+◌, [], ◌∷◌, length, IsTrue, arith, ap, ◌∙◌, subst}
use mathlib.Core.Option.{some}
use lib.ListN.{get_elem?}
use Rattle.cache_core.specs.Histories.{own}
use Rattle.seat_tests.proofs.Joined.{both_joined}
use Rattle.seat_tests.proofs.tests.turns.two.Goals as goal

pub close-diary-requires-clause-joined : goal.close-diary-requires-clause-joined
close-diary-requires-clause-joined g c =
    let made : c.join-2.new.first.view.made ≡ 3 = search rules in
    let joined : c.join-2.new.first.view.joined ≡ 1 ∷ 2 ∷ [] = search rules in
    both_joined c.join-2.new.first.view made joined

pub returns-then-twos-clause-one : goal.returns-then-twos-clause-one
returns-then-twos-clause-one g c =
    let there : get_elem? c.join.new.first.view.joined 0 ≡ some 1 = search rules in
    let stays = c.join-2.ensures.before 0 1 there in
    let number : c.split-one.result.view.number ≡ 1 = search rules in
    let came : c.join-one.result.0.0.view.number ≡ 1 = search rules in
    let none : own 1 c.split-one.result.view.seen ≡ [] = search rules in
    let true : IsTrue c.join-one.result.0.1 = search rules in
    let grew = subst (λ (n : ℕ). length (own n c.join-one.result.0.0.view.seen) ≡ length (own n c.split-one.result.view.seen) + c.args.count) number (c.join-one.ensures.first.1.1.1 true) in
    let theirs = subst (λ (n : ℕ). own n c.join.new.first.view.seen ≡ own n c.join-one.result.0.0.view.seen) came c.join.ensures.theirs in
    let whole = ap (λ l. length (own 1 l)) c.close-diary.ensures.history ∙ (ap length stays ∙ ap length theirs) in
    let zero = ap length none in
    whole ∙ (grew ∙ (let e : length (own 1 c.split-one.result.view.seen) + c.args.count ≡ c.args.count = omega arith in e))
