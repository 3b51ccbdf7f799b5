-- The numbers from 1 to n are all joined.
use Rattle.std.proofs.Common.{◌≡◌, ℕ, zero, suc, ◌+◌, ◌<◌, [], ◌∷◌, ◌++◌, length, arith, sym, ap, ◌∙◌, subst, length-append, append_assoc, List}
use mathlib.Core.Option.{some}
use mathlib.Core.Logic.{dite}
use native.Mathlib.Decide.{ℕ_discrete}
use lib.ListN.{get_elem?}
use Rattle.atomic_table.proofs.Lists.{at_longer, at_last}
use Rattle.cache_core.specs.declared.calls.Call.{Call}
use Rattle.turn_lock.specs.declared.view.View.{View}
use Rattle.turn_lock.specs.Seats.{AllJoined}
use Rattle.turn_lock.specs.Histories.{OwnsSame}
use mathlib.Core.List.{IsPrefix}
use Rattle.page_workers.specs.declared.worker.Worker.{Worker}
use Rattle.page_workers.specs.Seating.{HasLeft, numbers}

length-numbers : (n : ℕ) → length (numbers n) ≡ n
length-numbers zero = omega arith
length-numbers (suc n) = let h = length-append (numbers n) (suc n ∷ []) in let k = length-numbers n in omega arith

pub numbers_at : (n k : ℕ) → k < n → get_elem? (numbers n) k ≡ some (suc k)
numbers_at zero k lt = absurd (omega arith)
numbers_at (suc n) k lt = dite (ℕ_discrete k n)
    (λ e. subst (λ (j : ℕ). get_elem? (numbers n ++ suc n ∷ []) j ≡ some (suc j)) (sym e) (at_last (numbers n) (suc n) n (length-numbers n)))
    (λ other. at_longer (numbers n) (suc n ∷ []) k (suc k) (numbers_at n k (omega arith)))

pub numbers_joined : (v : View) (n : ℕ) → v.made ≡ n + 1 → v.joined ≡ numbers n → AllJoined v
numbers_joined v n made joined zero above below = absurd (omega arith)
numbers_joined v n made joined (suc k) above below = (k, ap (λ (l : List ℕ). get_elem? l k) joined ∙ numbers_at n k (omega arith))

-- one number more
pub numbers_more : (n m : ℕ) → m ≡ n + 1 → numbers n ++ m ∷ [] ≡ numbers (n + 1)
numbers_more n m e = let s : m ≡ suc n = omega arith in let t : suc n ≡ n + 1 = omega arith in ap (λ (j : ℕ). numbers n ++ j ∷ []) s ∙ ap numbers t

prefix_trans : (xs ys zs : List Call) → IsPrefix xs ys → IsPrefix ys zs → IsPrefix xs zs
prefix_trans xs ys zs p q = (p.0 ++ q.0, sym (append_assoc xs p.0 q.0) ∙ (ap (λ l. l ++ q.0) p.1 ∙ q.1))

-- a seat that was taken in is so still when another is
pub still_left : {F : Type 0} (old new : List Call) (i k : ℕ) (joined : List ℕ) (a b : Worker F) → joined ≡ numbers i → k < i → IsPrefix old new → OwnsSame joined new old
    → HasLeft old (k + 1) a b → HasLeft new (k + 1) a b
still_left old new i k joined a b is lt longer same left =
    let n : suc k ≡ k + 1 = omega arith in
    record {
      same = left.same;
      none = left.none;
      seat = left.seat;
      is = left.is;
      begins = prefix_trans left.seat.view.seen old new left.begins longer;
      own = same k (k + 1) (ap (λ (l : List ℕ). get_elem? l k) is ∙ numbers_at i k lt ∙ ap some n) ∙ left.own;
    }
