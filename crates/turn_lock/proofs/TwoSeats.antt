-- Locks with one or two seats beside seat 0.
use Rattle.std.proofs.Common.{◌≡◌, ◌≢◌, ℕ, ◌<◌, List, [], ◌∷◌, ◌++◌, refl, ap, sym, ◌∙◌, subst, arith, eq-eqb, ne_eqb}
use mathlib.Core.Logic.{dite}
use mathlib.Core.List.{IsPrefix}
use native.Mathlib.Decide.{ℕ_discrete}
use Rattle.cache_core.specs.declared.calls.Call.{Call}
use Rattle.cache_core.specs.Histories.{own}
use Rattle.turn_lock.specs.Histories.{AllMade}
use Rattle.turn_lock.proofs.OwnCalls.{own-append, append_same, made_prefix, made_back}

-- of two numbers one has no calls, so all are the other's
all_own : (n m : ℕ) → ((k : ℕ) → k < 2 → k ≢ m → k ≡ n) → (xs : List Call) → AllMade 2 xs → own m xs ≡ [] → own n xs ≡ xs
all_own n m other [] made none = refl
all_own n m other (x ∷ xs) made none = dite (ℕ_discrete x.seat m)
    (λ e. let mine : own m (x ∷ xs) ≡ x ∷ own m xs = rw (eq-eqb x.seat m e) in absurd (cc (none, mine)))
    (λ not. let is = other x.seat made.0 not in
    let rest : own m (x ∷ xs) ≡ own m xs = rw (ne_eqb x.seat m not) in
    rw (eq-eqb x.seat n is) (ap (λ l. x ∷ l) (all_own n m other xs made.1 (sym rest ∙ none))))

-- seat 0 called once, before seat 1 was made, and then seat 1 called once
pub two_calls : (a b : Call) (first whole : List Call) → AllMade 2 whole → IsPrefix first whole → own 1 first ≡ [] → own 0 first ≡ a ∷ [] → own 0 whole ≡ a ∷ [] → own 1 whole ≡ b ∷ []
    → whole ≡ a ∷ b ∷ []
two_calls a b first whole made p none mine same theirs =
    let rest = p.0 in
    let made_both = subst (AllMade 2) (sym p.1) made in
    let is_first : first ≡ a ∷ [] = sym (all_own 0 1 (λ k lt not. omega arith) first (made_prefix 2 first rest made_both) none) ∙ mine in
    let split : (n : ℕ) → own n first ++ own n rest ≡ own n whole = λ n. sym (own-append n first rest) ∙ ap (own n) p.1 in
    let no_more : own 0 rest ≡ [] = append_same (own 0 first) (own 0 rest) (split 0 ∙ (same ∙ sym mine)) in
    let is_rest : rest ≡ b ∷ [] = sym (all_own 1 0 (λ k lt not. omega arith) rest (made_back 2 first rest made_both) no_more) ∙ (ap (λ l. l ++ own 1 rest) (sym none) ∙ (split 1 ∙ theirs)) in
    sym p.1 ∙ (ap (λ l. l ++ rest) is_first ∙ ap (λ l. a ∷ l) is_rest)
