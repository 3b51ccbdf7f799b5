-- All numbers and pairs can be given.
use Rattle.std.proofs.Common.{◌≡◌, ◌<◌, ◌≤◌, ◌*◌, ◌%◌, ◌^◌, ℕ, true, List, [], ◌∷◌, length, Some, refl, ap, ◌∙◌, arith, le-leb}
use Rattle.std.specs.Prelude.{◌&&◌, ◌==◌, decimal}
use Rattle.std.specs.List.{list_all}
use Rattle.std.specs.Str.Parse.{digits_value}
use Rattle.std.proofs.lemmas.Bool.{and_from, and_parts}
use Rattle.std.proofs.lemmas.Fmt.{decimal_nonempty, digits_decimal, digits_value-decimal, length-decimal-le}
use Rattle.job_spool.specs.Words.{Names, are_names, is_name, is_number, number_in, number_text, pairs_of, up_to}
use Rattle.job_spool.specs.Laws.{AllPairsCanBeGiven, ArePairs, words_of}
use Rattle.job_spool.proofs.Digits.{own}

-- ---- numbers

number_decimal : (n : ℕ) → n < 10 ^ 7 → number_text (decimal n) ≡ Some n
number_decimal n small =
    let fits : n < 2 ^ 64 = omega arith in
    let few : length (decimal n) ≤ 7 = length-decimal-le 7 n (omega arith) small fits in
    let is : is_number (decimal n) ≡ true = and_from _ _ (and_from _ _ (le-leb 1 _ (decimal_nonempty n fits)) (le-leb _ 7 few)) (digits_decimal own n fits) in
    let value : digits_value 10 (decimal n) ≡ n = digits_value-decimal own n (omega arith) in
    rw (is, value) refl

up_to_some : (most n : ℕ) → 1 ≤ n → n ≤ most → up_to most (Some n) ≡ Some n
up_to_some most n some few = rw (le-leb 1 n some, le-leb n most few) refl

spelled : (most n : ℕ) → most < 10 ^ 7 → 1 ≤ n → n ≤ most → number_in most (decimal n) ≡ Some n
spelled most n small some few = ap (up_to most) (number_decimal n (omega (arith, small, few))) ∙ up_to_some most n some few

-- ---- names

pairs_back : (pairs : List Names) → pairs_of (words_of pairs) ≡ pairs
pairs_back [] = refl
pairs_back (p ∷ pairs) = ap (λ (l : List Names). p ∷ l) (pairs_back pairs)

words_count : (pairs : List Names) → length (words_of pairs) ≡ length pairs * 2
words_count [] = refl
words_count (p ∷ pairs) = let rest = words_count pairs in omega (arith, rest)

words_named : (pairs : List Names) → list_all (λ (p : Names). is_name p.source && is_name p.target) pairs ≡ true → list_all is_name (words_of pairs) ≡ true
words_named [] all = refl
words_named (p ∷ pairs) all =
    let parts = and_parts _ _ all in
    let both = and_parts _ _ parts.0 in
    and_from _ _ both.0 (and_from _ _ both.1 (words_named pairs parts.1))

even : (n : ℕ) → n % 2 ≡ 0 → (n % 2 == 0) ≡ true
even n is = grind arith

are_given : (pairs : List Names) → ArePairs pairs → are_names (words_of pairs) ≡ true
are_given pairs p =
    let size = words_count pairs in
    let some = p.some in
    let few = p.few in
    and_from _ _ (and_from _ _ (and_from _ _ (le-leb 2 (length (words_of pairs)) (omega (arith, size, some))) (le-leb (length (words_of pairs)) 32 (omega (arith, size, few)))) (even (length (words_of pairs)) (omega (arith, size)))) (words_named pairs p.named)

pub all_given : AllPairsCanBeGiven
all_given n pairs a p =
    let names = are_given pairs p in
    let res = spelled 4800 n.res (omega arith) a.resolution.0 a.resolution.1 in
    let workers = spelled 32 n.workers (omega arith) a.workers.0 a.workers.1 in
    let cache = spelled 256 n.cache (omega arith) a.cache.0 a.cache.1 in
    (rw (names, res, workers, cache) refl, pairs_back pairs)
