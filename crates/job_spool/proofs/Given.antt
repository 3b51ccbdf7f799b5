-- What the arguments of a spool give.
use Rattle.std.proofs.Common.{◌≡◌, ◌≤◌, ◌%◌, ℕ, Bool, true, false, List, [], ◌∷◌, length, Option, Some, None, refl, ap, sym, arith, leb-true, eqb-true}
use Rattle.std.specs.Prelude.{◌&&◌, if◌then◌else◌, nat_le}
use Rattle.std.proofs.lemmas.Bool.{and_parts}
use Rattle.job_spool.specs.Words.{Text, are_names, number_in, number_text, numbers_of, numbers_with, pairs_of, up_to}
use Rattle.job_spool.specs.Laws.{AreNumbers, ArePairs, PairsAreGiven}
use Rattle.job_spool.specs.declared.numbers.SpoolNumbers.{SpoolNumbers}
use Rattle.job_spool.proofs.Pairs.{all_named, pairs_count, words_back}

-- a number that is given lies in its range
in_range : (most : ℕ) (given : Option ℕ) (n : ℕ) → up_to most given ≡ Some n → (1 ≤ n) × (n ≤ most)
in_range most None n is = absurd cc
in_range most (Some m) n is = go (nat_le 1 m) (nat_le m most) refl refl is
  where
    go : (low high : Bool) → nat_le 1 m ≡ low → nat_le m most ≡ high → (if low && high then Some m else None) ≡ Some n → (1 ≤ n) × (n ≤ most)
    go true true a b e = let same : m ≡ n = cc in let some = leb-true 1 m a in let few = leb-true m most b in (omega (arith, same, some), omega (arith, same, few))
    go true false a b e = absurd cc
    go false high a b e = absurd cc

numbers_given : (r w c : Option ℕ) (n : SpoolNumbers) → numbers_with r w c ≡ Some n → (r ≡ Some n.res) × (w ≡ Some n.workers) × (c ≡ Some n.cache)
numbers_given None w c n is = absurd cc
numbers_given (Some r) None c n is = absurd cc
numbers_given (Some r) (Some w) None n is = absurd cc
numbers_given (Some r) (Some w) (Some c) n is =
    let same : record { res = r; workers = w; cache = c } ≡ n = cc in
    (ap (λ (x : SpoolNumbers). Some x.res) same, ap (λ (x : SpoolNumbers). Some x.workers) same, ap (λ (x : SpoolNumbers). Some x.cache) same)

are_numbers : (res workers cache : Text) (n : SpoolNumbers) → numbers_of res workers cache ≡ Some n → AreNumbers n
are_numbers res workers cache n is =
    let all = numbers_given (number_in 4800 res) (number_in 32 workers) (number_in 256 cache) n is in
    record {
      resolution = in_range 4800 (number_text res) n.res all.0;
      workers = in_range 32 (number_text workers) n.workers all.1;
      cache = in_range 256 (number_text cache) n.cache all.2;
    }

pub are_even : (names : List Text) → are_names names ≡ true → length names % 2 ≡ 0
are_even names all = eqb-true (length names % 2) 0 (and_parts _ _ (and_parts _ _ all).0).1

are_pairs : (names : List Text) → are_names names ≡ true → ArePairs (pairs_of names)
are_pairs names all =
    let parts = and_parts _ _ all in
    let even = and_parts _ _ parts.0 in
    let sizes = and_parts _ _ even.0 in
    let some = leb-true 2 (length names) sizes.0 in
    let few = leb-true (length names) 32 sizes.1 in
    let count = pairs_count names (are_even names all) in
    record { some = omega (arith, some, count); few = omega (arith, few, count); named = all_named names parts.1 }

names_first : (b : Bool) (o : Option SpoolNumbers) (n : SpoolNumbers) → (if b then o else None) ≡ Some n → (b ≡ true) × (o ≡ Some n)
names_first true o n is = (refl, is)
names_first false o n is = absurd cc

pub given : PairsAreGiven
given [] n is = absurd cc
given (res ∷ []) n is = absurd cc
given (res ∷ workers ∷ []) n is = absurd cc
given (res ∷ workers ∷ cache ∷ names) n is =
    let both = names_first (are_names names) (numbers_of res workers cache) n is in (
      are_numbers res workers cache n both.1,
      are_pairs names both.0,
      record { res = res; workers = workers; cache = cache; are = ap (λ (l : List Text). res ∷ workers ∷ cache ∷ l) (sym (words_back names (are_even names both.0))) },
    )
