-- Results of pages that follow one another, and of pages that rise.
use Rattle.std.proofs.Common.{◌≡◌, ◌⊎◌, inl, inr, ℕ, zero, suc, ◌+◌, ◌<◌, ◌≤◌, List, [], ◌∷◌, ◌++◌, length, get_or, Contains, refl, ap, subst, ◌∙◌, arith}
use Rattle.std.specs.List.Sorted.{IsStrictlyIncreasing}
use Rattle.std.proofs.lemmas.List.Elements.{Contains-append_right}
use Rattle.std.proofs.lemmas.List.Kept.{AllPairs-from_increasing}
use Rattle.page_workers.specs.Handing.{AreFrom}
use Rattle.page_workers.specs.Rounds.{pages_of}
use Rattle.page_workers.specs.declared.worker.PageResult.{PageResult}
use Rattle.page_workers.proofs.Lists.{same_default}

pub cons_cases : {A : Type 0} (x : A) (xs : List A) (y : A) → Contains (x ∷ xs) y → (x ≡ y) ⊎ Contains xs y
cons_cases x xs y (zero, lt, is) = inl is
cons_cases x xs y (suc i, lt, is) = inr (i, omega arith, is)

pub none_in : {A : Type 0} (y : A) → Contains [] y → ⊥
none_in y has = let less : has.0 < 0 = has.1 in absurd (omega arith)

-- ---- pages

pub page_in : (rs : List PageResult) (r : PageResult) → Contains rs r → Contains (pages_of rs) r.page
page_in [] r has = absurd (none_in r has)
page_in (q ∷ rs) r has = elim (cons_cases q rs r has) [
  | inl same ↦ subst (λ (x : PageResult). Contains (pages_of (q ∷ rs)) x.page) same (0, omega arith, refl)
  | inr rest ↦ Contains-append_right (q.page ∷ []) (pages_of rs) r.page (page_in rs r rest)
]

pub of_page : (rs : List PageResult) (page : ℕ) → Contains (pages_of rs) page → (r : PageResult) × Contains rs r × (r.page ≡ page)
of_page [] page has = absurd (none_in page has)
of_page (q ∷ rs) page has = elim (cons_cases q.page (pages_of rs) page has) [
  | inl same ↦ (q, (0, omega arith, refl), same)
  | inr rest ↦ let one = of_page rs page rest in (one.0, Contains-append_right (q ∷ []) rs one.0 one.1, one.2)
]

-- ---- pages that follow one another

pub from_inside : (page : ℕ) (rs : List PageResult) → AreFrom page rs → (r : PageResult) → Contains rs r → (page ≤ r.page) × (r.page < page + length rs)
from_inside page [] are r has = absurd (none_in r has)
from_inside page (q ∷ rs) are r has = elim (cons_cases q rs r has) [
  | inl same ↦ let here : q.page ≡ page = are.0 in let e : q.page ≡ r.page = ap (λ (x : PageResult). x.page) same in (omega (arith, here, e), omega (arith, here, e))
  | inr rest ↦ let more = from_inside (suc page) rs are.1 r rest in (omega (arith, more.0), omega (arith, more.1))
]

pub at_index : (page : ℕ) (rs : List PageResult) (i : ℕ) → AreFrom page rs → i < length rs → (r : PageResult) × Contains rs r × (r.page ≡ page + i)
at_index page [] i are lt = absurd (omega arith)
at_index page (r ∷ rs) zero are lt = (r, (0, omega arith, refl), let is = are.0 in omega (arith, is))
at_index page (r ∷ rs) (suc i) are lt =
    let one = at_index (suc page) rs i are.1 (omega arith) in
    (one.0, Contains-append_right (r ∷ []) rs one.0 one.1, let is = one.2 in omega (arith, is))

-- ---- pages that rise

first_below : (p : ℕ) (ps : List ℕ) (q : ℕ) → IsStrictlyIncreasing (p ∷ ps) → Contains ps q → p < q
first_below p ps q rises has =
    let up : p < get_or ps has.0 0 = AllPairs-from_increasing (p ∷ ps) rises 0 (suc has.0) 0 (omega arith) (let lt = has.1 in omega (arith, lt)) in
    let at : get_or ps has.0 0 ≡ q = same_default ps has.0 0 q has.1 ∙ has.2 in
    omega (arith, up, at)

tail_rises : (p : ℕ) (ps : List ℕ) → IsStrictlyIncreasing (p ∷ ps) → IsStrictlyIncreasing ps
tail_rises p ps rises k lt =
    let same : suc k + 1 ≡ suc (k + 1) = omega arith in
    subst (λ (i : ℕ). get_or ps k 0 < get_or (p ∷ ps) i 0) same (rises (suc k) (omega arith))

-- those in the first part are below those in the second
pub parts_rise : (xs ys : List PageResult) → IsStrictlyIncreasing (pages_of (xs ++ ys)) → (a b : PageResult) → Contains xs a → Contains ys b → a.page < b.page
parts_rise [] ys rises a b first second = absurd (none_in a first)
parts_rise (x ∷ xs) ys rises a b first second = elim (cons_cases x xs a first) [
  | inl same ↦ subst (λ (q : PageResult). q.page < b.page) same (first_below x.page (pages_of (xs ++ ys)) b.page rises (page_in (xs ++ ys) b (Contains-append_right xs ys b second)))
  | inr rest ↦ parts_rise xs ys (tail_rises x.page (pages_of (xs ++ ys)) rises) a b rest second
]

-- the first of some results has the lowest page
pub head_lowest : (q : PageResult) (rs : List PageResult) → IsStrictlyIncreasing (pages_of (q ∷ rs)) → (r : PageResult) → Contains (q ∷ rs) r → q.page ≤ r.page
head_lowest q rs rises r has = elim (cons_cases q rs r has) [
  | inl same ↦ subst (λ (x : PageResult). q.page ≤ x.page) same (omega arith)
  | inr rest ↦ let up = first_below q.page (pages_of rs) r.page rises (page_in rs r rest) in omega (arith, up)
]

pub last_part_rises : (xs ys : List PageResult) → IsStrictlyIncreasing (pages_of (xs ++ ys)) → IsStrictlyIncreasing (pages_of ys)
last_part_rises [] ys rises = rises
last_part_rises (x ∷ xs) ys rises = last_part_rises xs ys (tail_rises x.page (pages_of (xs ++ ys)) rises)

-- ---- a list of n workers

module _ {A : Type 0} where
  abbrev pub listed : ℕ → (ℕ → A) → List A
  listed zero f = []
  listed (suc n) f = f 0 ∷ listed n (λ k. f (suc k))

  pub listed_long : (n : ℕ) (f : ℕ → A) → length (listed n f) ≡ n
  listed_long zero f = refl
  listed_long (suc n) f = ap suc (listed_long n (λ k. f (suc k)))

  pub listed_at : (n : ℕ) (f : ℕ → A) (k : ℕ) (d : A) → k < n → get_or (listed n f) k d ≡ f k
  listed_at zero f k d lt = absurd (omega arith)
  listed_at (suc n) f zero d lt = refl
  listed_at (suc n) f (suc k) d lt = listed_at n (λ j. f (suc j)) k d (omega arith)
