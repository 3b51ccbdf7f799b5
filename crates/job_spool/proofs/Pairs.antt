-- Names two by two.
use Rattle.std.proofs.Common.{◌≡◌, ◌+◌, ◌*◌, ◌%◌, ◌<◌, ℕ, suc, true, List, [], ◌∷◌, length, drop, get_or, refl, ap, ◌∙◌, arith, drop-cons}
use Rattle.std.specs.Prelude.{◌&&◌}
use Rattle.std.specs.List.{list_all}
use Rattle.std.proofs.lemmas.Bool.{and_parts, and_from}
use Rattle.job_spool.specs.Words.{Names, Text, is_name, pairs_of}
use Rattle.job_spool.specs.Laws.{words_of}

after : (names : List Text) (at : ℕ) (d : Text) → at < length names → drop at names ≡ get_or names at d ∷ drop (at + 1) names
after names at d inside =
    let next : suc at ≡ at + 1 = omega arith in
    drop-cons names at d inside ∙ ap (λ (n : ℕ). get_or names at d ∷ drop n names) next

-- the two names at a place, and those behind them
pub two_more : (names : List Text) (at : ℕ) (d : Text) → at + 1 < length names
    → pairs_of (drop at names) ≡ record { source = get_or names at d; target = get_or names (at + 1) d } ∷ pairs_of (drop (at + 2) names)
two_more names at d inside =
    let first = after names at d (omega arith) in
    let second = after names (at + 1) d inside in
    let further : at + 1 + 1 ≡ at + 2 = omega arith in
    ap pairs_of (first ∙ ap (λ (l : List Text). get_or names at d ∷ l) (second ∙ ap (λ (n : ℕ). get_or names (at + 1) d ∷ drop n names) further))

-- ---- an even number of names

pub words_back : (names : List Text) → length names % 2 ≡ 0 → words_of (pairs_of names) ≡ names
words_back [] even = refl
words_back (a ∷ []) even = absurd (omega (arith, even))
words_back (a ∷ b ∷ names) even = ap (λ (l : List Text). a ∷ b ∷ l) (words_back names (omega (arith, even)))

pub pairs_count : (names : List Text) → length names % 2 ≡ 0 → length (pairs_of names) * 2 ≡ length names
pairs_count [] even = refl
pairs_count (a ∷ []) even = absurd (omega (arith, even))
pairs_count (a ∷ b ∷ names) even = let rest = pairs_count names (omega (arith, even)) in omega (arith, rest)

pub all_named : (names : List Text) → list_all is_name names ≡ true → list_all (λ (p : Names). is_name p.source && is_name p.target) (pairs_of names) ≡ true
all_named [] all = refl
all_named (a ∷ []) all = refl
all_named (a ∷ b ∷ names) all = let parts = and_parts _ _ all in let rest = and_parts _ _ parts.1 in and_from _ _ (and_from _ _ parts.0 rest.0) (all_named names rest.1)
