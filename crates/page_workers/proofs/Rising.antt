-- Claims that rise.
use Rattle.std.proofs.Common.{◌≡◌, ℕ, zero, suc, ◌+◌, ◌<◌, ◌≤◌, List, [], ◌∷◌, ◌++◌, length, map, get_or, refl, sym, ap, ◌∙◌, arith, length-append}
use Rattle.std.specs.Prelude.{All, Contains}
use Rattle.std.specs.List.Sorted.{IsStrictlyIncreasing}
use Rattle.std.proofs.lemmas.List.{get_or-map, get_or_append_left, length-map}
use Rattle.page_workers.proofs.Lists.{same_default}

at_least : (xs : List ℕ) → IsStrictlyIncreasing xs → (k : ℕ) → k < length xs → k ≤ get_or xs k 0
at_least xs rises zero lt = omega arith
at_least xs rises (suc k) lt =
    let before = at_least xs rises k (omega arith) in
    let here = rises k (omega arith) in
    let same : k + 1 ≡ suc k = omega arith in
    let e = ap (λ (j : ℕ). get_or xs j 0) same in omega arith

-- there are at most n rising numbers below n
pub rising_few : (n : ℕ) (xs : List ℕ) → IsStrictlyIncreasing xs → All (λ c. c < n) xs → length xs ≤ n
rising_few n [] rises below = omega arith
rising_few n (x ∷ xs) rises below =
    let least = at_least (x ∷ xs) rises (length xs) (omega arith) in
    let most = below (length xs) 0 (omega arith) in omega arith

pub rising_prefix : (xs ys : List ℕ) → IsStrictlyIncreasing (xs ++ ys) → IsStrictlyIncreasing xs
rising_prefix xs ys rises k lt =
    let long = length-append xs ys in
    let here = rises k (omega arith) in
    let a = get_or_append_left xs ys 0 k (omega arith) in
    let b = get_or_append_left xs ys 0 (k + 1) lt in omega arith

pub rising_from : (first : ℕ) (xs : List ℕ) → IsStrictlyIncreasing xs → IsStrictlyIncreasing (map (λ c. first + c) xs)
rising_from first xs rises k lt =
    let long = length-map xs (λ c. first + c) in
    let here = rises k (omega arith) in
    let a = get_or-map (λ c. first + c) xs k 0 0 (omega arith) in
    let b = get_or-map (λ c. first + c) xs (k + 1) 0 0 (omega arith) in omega arith

-- ---- which pages the claims give

pub claim_of_page : (first : ℕ) (xs : List ℕ) (page : ℕ) → Contains (map (λ c. first + c) xs) page → (c : ℕ) × Contains xs c × (first + c ≡ page)
claim_of_page first xs page has =
    let long = length-map xs (λ c. first + c) in
    let inside : has.0 < length xs = (let h = has.1 in omega arith) in
    let c = get_or xs has.0 0 in
    let a = get_or-map (λ c. first + c) xs has.0 0 page inside in
    (c, (has.0, inside, same_default xs has.0 c 0 inside), sym a ∙ has.2)

pub page_of_claim : (first : ℕ) (xs : List ℕ) (c : ℕ) → Contains xs c → Contains (map (λ c. first + c) xs) (first + c)
page_of_claim first xs c has =
    let long = length-map xs (λ c. first + c) in
    let a = get_or-map (λ c. first + c) xs has.0 c (first + c) has.1 in
    (has.0, (let h = has.1 in omega arith), a ∙ ap (λ (x : ℕ). first + x) has.2)

pub map-more : (first : ℕ) (xs : List ℕ) (c : ℕ) → map (λ c. first + c) (xs ++ c ∷ []) ≡ map (λ c. first + c) xs ++ (first + c) ∷ []
map-more first [] c = refl
map-more first (x ∷ xs) c = ap (λ (l : List ℕ). (first + x) ∷ l) (map-more first xs c)
