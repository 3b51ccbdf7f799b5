-- The longer of two beginnings of one history.
use Rattle.std.proofs.Common.{◌≡◌, ◌⊎◌, ℕ, leb, Bool, true, false, cond, List, length, refl, ap, sym, subst, inl, inr, ⊎_elim, arith}
use Rattle.std.proofs.lemmas.Bool.{leb-true, leb-false}
use mathlib.Core.List.{IsPrefix}
use Rattle.cache_core.specs.declared.calls.Call.{Call}
use Rattle.cache_core.specs.Histories.{own}
use Rattle.turn_lock.proofs.Prefixes.{prefix_self, prefix_shorter}
use Rattle.turn_lock.proofs.OwnCalls.{own_between}
use Rattle.turn_lock.specs.Histories.{longer_of}

-- it is the second, which the first begins, or the first, which the second begins
pub longer_is : (xs ys log : List Call) → IsPrefix xs log → IsPrefix ys log → ((longer_of xs ys ≡ ys) × IsPrefix xs ys) ⊎ ((longer_of xs ys ≡ xs) × IsPrefix ys xs)
longer_is xs ys log p q = by_test (leb (length xs) (length ys)) refl
  where
    by_test : (b : Bool) → leb (length xs) (length ys) ≡ b → ((longer_of xs ys ≡ ys) × IsPrefix xs ys) ⊎ ((longer_of xs ys ≡ xs) × IsPrefix ys xs)
    by_test true e = inl (ap (λ (b : Bool). cond b ys xs) e, prefix_shorter xs ys log p q (leb-true (length xs) (length ys) e))
    by_test false e = inr (ap (λ (b : Bool). cond b ys xs) e, prefix_shorter ys xs log q p (let h = leb-false (length xs) (length ys) e in omega arith))

pub longer_begins : (xs ys log : List Call) → IsPrefix xs log → IsPrefix ys log → IsPrefix (longer_of xs ys) log
longer_begins xs ys log p q = ⊎_elim (λ (t : (longer_of xs ys ≡ ys) × IsPrefix xs ys). subst (λ (l : List Call). IsPrefix l log) (sym t.0) q) (λ (t : (longer_of xs ys ≡ xs) × IsPrefix ys xs). subst (λ (l : List Call). IsPrefix l log) (sym t.0) p) (longer_is xs ys log p q)

pub first_begins : (xs ys log : List Call) → IsPrefix xs log → IsPrefix ys log → IsPrefix xs (longer_of xs ys)
first_begins xs ys log p q = ⊎_elim (λ (t : (longer_of xs ys ≡ ys) × IsPrefix xs ys). subst (IsPrefix xs) (sym t.0) t.1) (λ (t : (longer_of xs ys ≡ xs) × IsPrefix ys xs). subst (IsPrefix xs) (sym t.0) (prefix_self xs)) (longer_is xs ys log p q)

pub second_begins : (xs ys log : List Call) → IsPrefix xs log → IsPrefix ys log → IsPrefix ys (longer_of xs ys)
second_begins xs ys log p q = ⊎_elim (λ (t : (longer_of xs ys ≡ ys) × IsPrefix xs ys). subst (IsPrefix ys) (sym t.0) (prefix_self ys)) (λ (t : (longer_of xs ys ≡ xs) × IsPrefix ys xs). subst (IsPrefix ys) (sym t.0) t.1) (longer_is xs ys log p q)

-- where the first, or the second, has all calls of a number, so has the longer
pub first_owns : (n : ℕ) (xs ys log : List Call) → IsPrefix xs log → IsPrefix ys log → own n xs ≡ own n log → own n (longer_of xs ys) ≡ own n log
first_owns n xs ys log p q same = own_between n xs (longer_of xs ys) log (first_begins xs ys log p q) (longer_begins xs ys log p q) same

pub second_owns : (n : ℕ) (xs ys log : List Call) → IsPrefix xs log → IsPrefix ys log → own n ys ≡ own n log → own n (longer_of xs ys) ≡ own n log
second_owns n xs ys log p q same = own_between n ys (longer_of xs ys) log (second_begins xs ys log p q) (longer_begins xs ys log p q) same
