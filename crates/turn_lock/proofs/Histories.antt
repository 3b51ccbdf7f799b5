-- What the own calls of seats tell of a history.
use Rattle.std.proofs.Common.{◌≡◌, ◌≢◌, ℕ, zero, suc, ◌<◌, List, [], ◌∷◌, length, refl, ap, sym, ◌∙◌, subst, arith, eq-eqb, ne_eqb}
use Rattle.std.specs.Prelude.{slice_index_or}
use mathlib.Core.Logic.{dite}
use native.Mathlib.Decide.{ℕ_discrete}
use Rattle.cache_core.specs.declared.calls.Call.{Call}
use Rattle.cache_core.specs.Histories.{own}
use Rattle.turn_lock.specs.Histories.{AllMade}
use Rattle.turn_lock.specs.Laws.{CallsAreOwn, OwnCallsDetermineAll, AloneIsHistory, OwnsAreWhole}
use Rattle.turn_lock.proofs.OwnCalls.{prefix_all}

-- a call of one seat stands among the own calls of that seat
at_own : (xs : List Call) (k : ℕ) (d : Call) → k < length xs
    → (j : ℕ) × (j < length (own (slice_index_or xs k d).seat xs)) × ((e : Call) → slice_index_or (own (slice_index_or xs k d).seat xs) j e ≡ slice_index_or xs k d)
at_own [] k d inside = absurd (omega arith)
at_own (x ∷ xs) zero d inside = rw (eq-eqb x.seat x.seat refl) (0, omega arith, λ e. refl)
at_own (x ∷ xs) (suc k) d inside =
    let r = at_own xs k d (omega arith) in
    dite (ℕ_discrete x.seat (slice_index_or xs k d).seat)
    (λ e. rw (eq-eqb x.seat (slice_index_or xs k d).seat e) (suc r.0, let h = r.1 in omega arith, r.2))
    (λ not. rw (ne_eqb x.seat (slice_index_or xs k d).seat not) r)

made_at : (n : ℕ) (xs : List Call) (k : ℕ) (d : Call) → AllMade n xs → k < length xs → (slice_index_or xs k d).seat < n
made_at n [] k d made inside = absurd (omega arith)
made_at n (x ∷ xs) zero d made inside = made.0
made_at n (x ∷ xs) (suc k) d made inside = made_at n xs k d made.1 (omega arith)

pub calls_are_own : CallsAreOwn
calls_are_own made history all c there =
    let r = at_own history there.0 c there.1 in (
      subst (λ (x : Call). x.seat < made) there.2 (made_at made history there.0 c all there.1),
      subst (λ (x : Call). (j : ℕ) × (j < length (own x.seat history)) × (slice_index_or (own x.seat history) j x ≡ x)) there.2 (r.0, r.1, r.2 (slice_index_or history there.0 c)),
    )

pub own_calls_determine_all : OwnCallsDetermineAll
own_calls_determine_all made passes history all told k d inside =
    let r = at_own history k d inside in
    let c : Call = slice_index_or history k d in
    ap passes (sym (r.2 d)) ∙ told c.seat (made_at made history k d all inside) r.0 d r.1

pub alone_is_history : AloneIsHistory
alone_is_history made seat [] all none = refl
alone_is_history made seat (x ∷ xs) all none = dite (ℕ_discrete x.seat seat)
    (λ e. rw (eq-eqb x.seat seat e) (ap (λ l. x ∷ l) (alone_is_history made seat xs all.1
    (λ other lt not. let apart : x.seat ≢ other = λ same. not (sym same ∙ e) in
    let rest : own other (x ∷ xs) ≡ own other xs = rw (ne_eqb x.seat other apart) refl in sym rest ∙ none other lt not))))
    (λ not. let mine : own x.seat (x ∷ xs) ≡ x ∷ own x.seat xs = rw (eq-eqb x.seat x.seat refl) refl in
    let gone = none x.seat all.0 not in absurd (cc (mine, gone)))

pub owns_are_whole : OwnsAreWhole
owns_are_whole made first history begins all same = prefix_all made first history begins all same
