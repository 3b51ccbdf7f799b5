-- Pages that workers share are counted.
use Rattle.std.proofs.Common.{◌≡◌, inl, inr, ℕ, zero, suc, ◌+◌, ◌<◌, ◌≤◌, List, [], ◌∷◌, ◌++◌, length, get_or, Contains, Bool, true, false, cond, refl, sym, ap, subst, ◌∙◌, arith}
use Rattle.std.specs.Prelude.{count_by, ◌==◌}
use Rattle.std.specs.List.Sorted.{IsStrictlyIncreasing}
use mathlib.Core.Logic.{dite}
use native.Mathlib.Decide.{ℕ_discrete}
use Rattle.std.proofs.lemmas.List.Sums.{sum_by-append}
use Rattle.page_workers.proofs.Lists.{same_default}
use Rattle.std.proofs.lemmas.List.Elements.{Contains-append_cases, Contains-append_right}
use Rattle.std.proofs.lemmas.List.Kept.{AllPairs-from_increasing}
use Rattle.dvi_run.specs.Shares.{ArePartitioned, EachPageIsDrawnOnce, pages_of_first, times_drawn}

count_joined : (p : ℕ → Bool) (xs ys : List ℕ) → count_by p (xs ++ ys) ≡ count_by p xs + count_by p ys
count_joined p xs ys = sum_by-append (λ x. cond (p x) 1 0) xs ys

abbrev times : ℕ → List ℕ → ℕ
times page xs = count_by (λ p. p == page) xs

-- one number is there as often as it is the one that is sought
one_is : (x page : ℕ) → x ≡ page → times page (x ∷ []) ≡ 1
one_is x page e = let same : (x == page) ≡ true = grind arith in ap (λ (b : Bool). 0 + cond b 1 0) same

one_other : (x page : ℕ) → (x ≡ page → ⊥) → times page (x ∷ []) ≡ 0
one_other x page other = let differs : (x == page) ≡ false = grind arith in ap (λ (b : Bool). 0 + cond b 1 0) differs

times_cons : (x page : ℕ) (xs : List ℕ) → times page (x ∷ xs) ≡ times page (x ∷ []) + times page xs
times_cons x page xs = count_joined (λ p. p == page) (x ∷ []) xs

-- ---- one list

in_tail : (x page : ℕ) (xs : List ℕ) → Contains xs page → Contains (x ∷ xs) page
in_tail x page xs h = Contains-append_right (x ∷ []) xs page h

none_there : (xs : List ℕ) (page : ℕ) → (Contains xs page → ⊥) → times page xs ≡ 0
none_there [] page none = refl
none_there (x ∷ xs) page none =
    let here = one_other x page (λ e. none (0, omega arith, e)) in
    let rest = none_there xs page (λ h. none (in_tail x page xs h)) in
    let all = times_cons x page xs in
    omega (arith, here, rest, all)

-- of numbers that differ from one another
abbrev Differ : List ℕ → Type 0
Differ xs = (i j : ℕ) → i < j → j < length xs → get_or xs i 0 ≡ get_or xs j 0 → ⊥

differ_tail : (x : ℕ) (xs : List ℕ) → Differ (x ∷ xs) → Differ xs
differ_tail x xs d i j lt inside e = d (suc i) (suc j) (omega arith) (omega arith) e

at_of : (xs : List ℕ) (page : ℕ) → Contains xs page → (k : ℕ) × (k < length xs) × (get_or xs k 0 ≡ page)
at_of xs page h = (h.0, h.1, same_default xs h.0 0 page h.1 ∙ h.2)

in_rest : (x : ℕ) (xs : List ℕ) (page : ℕ) → (x ≡ page → ⊥) → (k : ℕ) → k < length (x ∷ xs) → get_or (x ∷ xs) k page ≡ page → Contains xs page
in_rest x xs page other zero lt e = absurd (other e)
in_rest x xs page other (suc k) lt e = (k, omega arith, e)

once_there : (xs : List ℕ) (page : ℕ) → Differ xs → Contains xs page → times page xs ≡ 1
once_there [] page d h = let less : h.0 < 0 = h.1 in absurd (omega arith)
once_there (x ∷ xs) page d h =
    let all = times_cons x page xs in
    dite (ℕ_discrete x page)
    (λ e.
    let here = one_is x page e in
    let rest = none_there xs page (λ again. let at = at_of xs page again in d 0 (suc at.0) (omega arith) (omega (arith, at.1)) (e ∙ sym at.2)) in
    omega (arith, here, rest, all))
    (λ other.
    let here = one_other x page other in
    let rest = once_there xs page (differ_tail x xs d) (in_rest x xs page other h.0 h.1 h.2) in
    omega (arith, here, rest, all))

differ_of : (xs : List ℕ) → IsStrictlyIncreasing xs → Differ xs
differ_of xs rises i j lt inside e =
    let below : get_or xs i 0 < get_or xs j 0 = AllPairs-from_increasing xs rises i j 0 lt inside in
    absurd (omega (arith, e, below))

-- ---- all lists

module _ (total n : ℕ) (pages : ℕ → List ℕ) (s : ArePartitioned total n pages) where
  all_inside : (k page : ℕ) → k ≤ n → Contains (pages_of_first k pages) page → page < total
  all_inside zero page le h = let less : h.0 < 0 = h.1 in absurd (omega arith)
  all_inside (suc k) page le h = elim (Contains-append_cases (pages_of_first k pages) (pages k) page h) [
    | inl before ↦ all_inside k page (omega arith) before
    | inr here ↦ s.inside k page (omega arith) here
  ]

  never_here : (page : ℕ) → total ≤ page → times_drawn n pages page ≡ 0
  never_here page above = none_there (pages_of_first n pages) page (λ h. let below = all_inside n page (omega arith) h in absurd (omega arith))

  module _ (page : ℕ) (below : page < total) where
    none_of : (k : ℕ) → k ≤ (s.shared page below).0 → times_drawn k pages page ≡ 0
    none_of zero le = refl
    none_of (suc k) le =
        let one = s.shared page below in
        let before = none_of k (omega arith) in
        let here = none_there (pages k) page (λ h. let same = one.3 k (omega (arith, one.1)) h in absurd (omega arith)) in
        let all = count_joined (λ p. p == page) (pages_of_first k pages) (pages k) in
        omega (arith, before, here, all)

    one_of : (k : ℕ) → (s.shared page below).0 < k → k ≤ n → times_drawn k pages page ≡ 1
    one_of zero lt le = absurd (omega arith)
    one_of (suc k) lt le =
        let one = s.shared page below in
        let all = count_joined (λ p. p == page) (pages_of_first k pages) (pages k) in
        dite (ℕ_discrete k one.0)
        (λ e.
        let before = none_of k (omega arith) in
        let has : Contains (pages k) page = subst (λ (m : ℕ). Contains (pages m) page) (sym e) one.2 in
        let here = once_there (pages k) page (differ_of (pages k) (s.rising k (omega arith))) has in
        omega (arith, before, here, all))
        (λ other.
        let before = one_of k (omega arith) (omega arith) in
        let here = none_there (pages k) page (λ h. other (one.3 k (omega arith) h)) in
        omega (arith, before, here, all))

  once_here : (page : ℕ) → page < total → times_drawn n pages page ≡ 1
  once_here page below = one_of page below n (s.shared page below).1 (omega arith)

-- ---- how many there are

-- how often the numbers below one are there together
abbrev tally : (below : ℕ) → List ℕ → ℕ
tally zero xs = 0
tally (suc m) xs = tally m xs + times m xs

tally_none : (m : ℕ) → tally m [] ≡ 0
tally_none zero = refl
tally_none (suc m) = let less = tally_none m in omega (arith, less)

tally_above : (m x : ℕ) (xs : List ℕ) → m ≤ x → tally m (x ∷ xs) ≡ tally m xs
tally_above zero x xs le = refl
tally_above (suc m) x xs le =
    let less = tally_above m x xs (omega arith) in
    let here = one_other x m (λ e. absurd (omega arith)) in
    let all = times_cons x m xs in
    omega (arith, less, here, all)

tally_below : (m x : ℕ) (xs : List ℕ) → x < m → tally m (x ∷ xs) ≡ suc (tally m xs)
tally_below zero x xs lt = absurd (omega arith)
tally_below (suc m) x xs lt =
    let all = times_cons x m xs in
    dite (ℕ_discrete x m)
    (λ e. let less = tally_above m x xs (omega arith) in let here = one_is x m e in omega (arith, less, here, all))
    (λ other. let less = tally_below m x xs (omega arith) in let here = one_other x m other in omega (arith, less, here, all))

tally_all : (m : ℕ) (xs : List ℕ) → ((page : ℕ) → Contains xs page → page < m) → tally m xs ≡ length xs
tally_all m [] inside = tally_none m
tally_all m (x ∷ xs) inside =
    let here = tally_below m x xs (inside x (0, omega arith, refl)) in
    let rest = tally_all m xs (λ page h. inside page (in_tail x page xs h)) in
    omega (arith, here, rest)

tally_once : (m : ℕ) (xs : List ℕ) → ((page : ℕ) → page < m → times page xs ≡ 1) → tally m xs ≡ m
tally_once zero xs once = refl
tally_once (suc m) xs once =
    let less = tally_once m xs (λ page lt. once page (omega arith)) in
    let here = once m (omega arith) in
    omega (arith, less, here)

pub each_page_is_drawn_once : (total n : ℕ) (pages : ℕ → List ℕ) → ArePartitioned total n pages → EachPageIsDrawnOnce total n pages
each_page_is_drawn_once total n pages s =
    let once : (page : ℕ) → page < total → times_drawn n pages page ≡ 1 = once_here total n pages s in
    record {
      count =
          sym (tally_all total (pages_of_first n pages) (λ page h. all_inside total n pages s n page (omega arith) h)) ∙ tally_once total (pages_of_first n pages) once;
      once = once;
      never = never_here total n pages s;
    }
