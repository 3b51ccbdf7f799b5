-- Seats beside seat 0, joined.
use Rattle.std.proofs.Common.{◌≡◌, ℕ, zero, suc, ◌+◌, ◌-◌, ◌<◌, List, [], ◌∷◌, ◌++◌, length, refl, sym, arith, ap, subst}
use mathlib.Core.Logic.{dite}
use mathlib.Core.Option.{some}
use native.Mathlib.Decide.{ℕ_discrete}
use lib.ListN.{get_elem?}
use Rattle.atomic_table.proofs.Lists.{at_longer, at_last}
use Rattle.turn_lock.specs.declared.view.View.{View}
use Rattle.turn_lock.specs.Seats.{AllJoined}

pub one_joined : (v : View) → v.made ≡ 2 → v.joined ≡ 1 ∷ [] → AllJoined v
one_joined v two is zero above below = absurd (omega arith)
one_joined v two is (suc zero) above below = (0, ap (λ l. get_elem? l 0) is)
one_joined v two is (suc (suc n)) above below = absurd (omega arith)

pub both_joined : (v : View) → v.made ≡ 3 → v.joined ≡ 1 ∷ 2 ∷ [] → AllJoined v
both_joined v three is zero above below = absurd (omega arith)
both_joined v three is (suc zero) above below = (0, ap (λ l. get_elem? l 0) is)
both_joined v three is (suc (suc zero)) above below = (1, ap (λ l. get_elem? l 1) is)
both_joined v three is (suc (suc (suc n))) above below = absurd (omega arith)

-- eight seats are joined, the last first: one more
pub more_joined : (joined : List ℕ) (number i : ℕ) → i < 8 → number ≡ 8 - i → ((n : ℕ) → 8 < n + i → n < 9 → (place : ℕ) × (get_elem? joined place ≡ some n))
    → (n : ℕ) → 8 < n + (i + 1) → n < 9 → (place : ℕ) × (get_elem? (joined ++ number ∷ []) place ≡ some n)
more_joined joined number i few is before n above below = dite (ℕ_discrete n number)
    (λ e. (length joined, subst (λ k. get_elem? (joined ++ number ∷ []) (length joined) ≡ some k) (sym e) (at_last joined number (length joined) refl)))
    (λ apart. let b = before n (omega arith) below in (b.0, at_longer joined (number ∷ []) b.0 n b.1))
