use Rattle.std.proofs.Common.{◌≡◌, ℕ, suc, ◌+◌, ◌-◌, arith, sym, ap, ◌∙◌, subst}
use Rattle.std.specs.Arc.{arc_value}
use Rattle.cache_core.proofs.Leaving.{Searched, test, stops, enough, searched}
use Rattle.cache_core.proofs.fonts.find_leavers.Goals as goal

pub returns-then-they_fit-clause-stay : goal.returns-then-they_fit-clause-stay
returns-then-they_fit-clause-stay g c = λ k.
    let s = c.loop-gone.invariant.1 in
    let inside = c.loop-gone-test.true in
    let count = c.loop-gone.invariant.0 in
    s.same k ∙ stops g.T.Stands.weighs c.args.limits c.args.weight c.args.resident.now.fonts.entries k
    (c.len-count.result - c.loop-gone.gone) c.loop-gone.rest (omega arith) s.rest (sym c.they_fit.ensures ∙ c.if-they_fit.true)

pub overflow_sub-rest : goal.overflow_sub-rest
overflow_sub-rest g c =
    let s = c.loop-gone.invariant.1 in
    let inside = c.loop-gone-test.true in
    let count = c.loop-gone.invariant.0 in
    let m : ℕ = c.len-count.result - (c.loop-gone.gone + 1) in
    let n : c.len-count.result - c.loop-gone.gone ≡ suc (c.len-count.result - (c.loop-gone.gone + 1)) = omega arith in
    let more = subst (λ n. Searched g.T.Stands.weighs c.args.limits c.args.weight c.args.resident.now.fonts.entries n c.loop-gone.oldest c.loop-gone.noted.items c.loop-gone.answered.items c.loop-gone.rest) n s in
    let most = enough g.T.Stands.weighs c.args.limits c.args.weight c.args.resident.now.fonts.entries (c.len-count.result - (c.loop-gone.gone + 1))
    c.loop-gone.oldest c.next_back.new.self (c.in-Some.key.now, c.in-Some.font.now) c.loop-gone.noted.items c.loop-gone.answered.items c.loop-gone.rest (omega arith) more c.in-Some.ensures.steps in
    let weight : c.weight-heavy.result ≡ g.T.Stands.weighs (arc_value c.in-Some.font.now) = c.weight-heavy.ensures ∙ ap g.T.Stands.weighs c.deref.ensures in
    omega arith

pub loop-gone-preserved : goal.loop-gone-preserved
loop-gone-preserved g c =
    let s = c.loop-gone.invariant.1 in
    let inside = c.loop-gone-test.true in
    let count = c.loop-gone.invariant.0 in
    let n : c.len-count.result - c.loop-gone.gone ≡ suc (c.len-count.result - (c.loop-gone.gone + 1)) = omega arith in
    let more = subst (λ n. Searched g.T.Stands.weighs c.args.limits c.args.weight c.args.resident.now.fonts.entries n c.loop-gone.oldest c.loop-gone.noted.items c.loop-gone.answered.items c.loop-gone.rest) n s in
    let weight : c.weight-heavy.result ≡ g.T.Stands.weighs (arc_value c.in-Some.font.now) = c.weight-heavy.ensures ∙ ap g.T.Stands.weighs c.deref.ensures in
    let all = searched g.T.Stands.weighs c.args.limits c.args.weight c.args.resident.now.fonts.entries (c.len-count.result - (c.loop-gone.gone + 1))
    c.loop-gone.oldest c.next_back.new.self (c.in-Some.key.now, c.in-Some.font.now) c.loop-gone.noted.items c.loop-gone.answered.items c.loop-gone.rest (omega arith) more c.in-Some.ensures.steps
    c.in_ok-try_clone.field-0 c.in_ok-try_clone-2.field-0 c.push.new.self.items c.push-in-loop-gone.new.self.items (c.loop-gone.rest - c.weight-heavy.result) c.in_ok-push.ensures.items c.in_ok-push-2.ensures.items c.in_ok-try_clone.ensures c.in_ok-try_clone-2.ensures (ap (λ w. c.loop-gone.rest - w) weight)
    (ap (λ n. test g.T.Stands.weighs c.args.limits c.args.weight c.args.resident.now.fonts.entries n c.loop-gone.rest) (sym n) ∙ (sym c.they_fit.ensures ∙ c.if-they_fit.false)) in
    (count, all)
