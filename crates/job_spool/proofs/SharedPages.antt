-- Jobs that share a cache have equal units, and no more pages together than one cache may serve.
use Rattle.std.proofs.Common.{◌≡◌, ℕ, zero, suc, ◌+◌, ◌<◌, ◌≤◌, Bool, true, false, List, [], ◌∷◌, ◌++◌, length, get_or, Option, Some, None, refl, sym, ap, ap₂, subst, ◌∙◌, arith, inl, inr, eqb-true, leb-true, ne_eqb}
use Rattle.std.specs.Prelude.{◌==◌, if◌then◌else◌, nat_le}
use Rattle.std.proofs.lemmas.Bool.{and_parts, cases_lt}
use Rattle.std.proofs.lemmas.List.{get_or_append_left, get_or_push, length_push}
use mathlib.Core.Logic.{dite}
use native.Mathlib.Decide.{ℕ_discrete}
use Rattle.pixel_round.specs.declared.units.Units.{Units}
use Rattle.job_spool.specs.Sharing.{Documents, cache_after, cache_for, caches_below, document_at, has_units, last_with, pages_in, pages_sharing, units_eq, units_in}

-- ---- units

abbrev units_from : (num den mag res : ℕ) → Units
units_from a b c d = record { num = a; den = b; mag = c; res = d }

same_units : (a b c d w x y z : ℕ) → a ≡ w → b ≡ x → c ≡ y → d ≡ z → units_from a b c d ≡ units_from w x y z
same_units a b c d w x y z p q r s = cc

are_equal : (u v : Units) → units_eq u v ≡ true → u ≡ v
are_equal u v is =
    let last = and_parts _ _ is in
    let third = and_parts _ _ last.0 in
    let second = and_parts _ _ third.0 in
    same_units u.num u.den u.mag u.res v.num v.den v.mag v.res (eqb-true u.num v.num second.0) (eqb-true u.den v.den second.1) (eqb-true u.mag v.mag third.1) (eqb-true u.res v.res last.1)

units_there : (u : Units) (o : Option Units) → has_units u o ≡ true → o ≡ Some u
units_there u None is = absurd cc
units_there u (Some v) is = ap Some (sym (are_equal u v is))

-- the last job with some units
abbrev IsBelow : Documents → Units → (k j : ℕ) → Type 0
IsBelow docs u k j = (j < k) × (has_units u (units_in (document_at docs j)) ≡ true)

last_by : (docs : Documents) (u : Units) (k j : ℕ) (b : Bool) → has_units u (units_in (document_at docs k)) ≡ b → (last_with docs u k ≡ Some j → IsBelow docs u k j) → (if b then Some k else last_with docs u k) ≡ Some j → IsBelow docs u (suc k) j
last_by docs u k j true here rest found = let same : k ≡ j = cc found in (omega (arith, same), subst (λ (n : ℕ). has_units u (units_in (document_at docs n)) ≡ true) same here)
last_by docs u k j false here rest found = let below = rest found in (omega (arith, below.0), below.1)

last_is : (docs : Documents) (u : Units) (k j : ℕ) → last_with docs u k ≡ Some j → IsBelow docs u k j
last_is docs u zero j is = absurd cc
last_is docs u (suc k) j is = last_by docs u k j (has_units u (units_in (document_at docs k))) refl (last_is docs u k j) is

-- ---- pages

pages_same : (docs : Documents) (xs ys : List ℕ) (f k : ℕ) → ((j : ℕ) → j < k → get_or xs j 0 ≡ get_or ys j 0) → pages_sharing docs xs f k ≡ pages_sharing docs ys f k
pages_same docs xs ys f zero same = refl
pages_same docs xs ys f (suc k) same =
    ap₂ (λ (n c : ℕ). n + (if c == f then pages_in (document_at docs k) else 0)) (pages_same docs xs ys f k (λ j lt. same j (omega arith))) (same k (omega arith))

pages_none : (docs : Documents) (xs : List ℕ) (f k : ℕ) → ((j : ℕ) → j < k → get_or xs j 0 ≡ f → ⊥) → pages_sharing docs xs f k ≡ 0
pages_none docs xs f zero none = refl
pages_none docs xs f (suc k) none =
    let rest = pages_none docs xs f k (λ j lt. none j (omega arith)) in
    let other : (get_or xs k 0 == f) ≡ false = ne_eqb (get_or xs k 0) f (none k (omega arith)) in
    rw (rest, other) refl

pub pages_rise : (docs : Documents) (xs : List ℕ) (f k n : ℕ) → k ≤ n → pages_sharing docs xs f k ≤ pages_sharing docs xs f n
pages_rise docs xs f k zero le = let same : k ≡ 0 = omega arith in subst (λ (m : ℕ). pages_sharing docs xs f m ≤ 0) (sym same) (omega arith)
pages_rise docs xs f k (suc n) le = elim (cases_lt k (suc n)) [
  | inl below ↦ let rest = pages_rise docs xs f k n (omega arith) in omega (arith, rest)
  | inr at ↦ let same : k ≡ suc n = omega arith in subst (λ (m : ℕ). pages_sharing docs xs f m ≤ pages_sharing docs xs f (suc n)) (sym same) (omega arith)
]

-- ---- places

pub record IsPlaced (docs : Documents) (xs : List ℕ) (k f : ℕ) : Type 0 where
  pub is : get_or xs k 0 ≡ f
  pub before : f ≤ k
  pub first : get_or xs f 0 ≡ f
  pub units : units_in (document_at docs f) ≡ units_in (document_at docs k)

placed_more : (docs : Documents) (xs : List ℕ) (p k f : ℕ) → k < length xs → IsPlaced docs xs k f → IsPlaced docs (xs ++ p ∷ []) k f
placed_more docs xs p k f lt at = record {
  is = get_or_append_left xs (p ∷ []) 0 k lt ∙ at.is;
  before = at.before;
  first = get_or_append_left xs (p ∷ []) 0 f (omega (arith, lt, at.before)) ∙ at.first;
  units = at.units;
}

module _ (docs : Documents) (m : ℕ) (xs : List ℕ) (long : length xs ≡ m) where
  new_place : IsPlaced docs (xs ++ m ∷ []) m m
  new_place = record { is = get_or_push xs m 0 m long; before = omega arith; first = get_or_push xs m 0 m long; units = refl }

  module _ (placed : (k : ℕ) → k < m → (f : ℕ) × IsPlaced docs xs k f) where
    joined : (u : Units) (j : ℕ) → units_in (document_at docs m) ≡ Some u → last_with docs u m ≡ Some j → (b : Bool) → IsPlaced docs (xs ++ (if b then get_or xs j 0 else m) ∷ []) m (if b then get_or xs j 0 else m)
    joined u j own found false = new_place
    joined u j own found true =
        let last = last_is docs u m j found in
        let at = placed j last.0 in
        let f = at.0 in
        subst (λ (n : ℕ). IsPlaced docs (xs ++ n ∷ []) m n) (sym at.1.is) (record {
          is = get_or_push xs f 0 m long;
          before = omega (arith, last.0, at.1.before);
          first = get_or_append_left xs (f ∷ []) 0 f (omega (arith, long, last.0, at.1.before)) ∙ at.1.first;
          units = at.1.units ∙ units_there u (units_in (document_at docs j)) last.1 ∙ sym own;
        })

    by_last : (u : Units) → units_in (document_at docs m) ≡ Some u → (l : Option ℕ) → last_with docs u m ≡ l → IsPlaced docs (xs ++ cache_after docs xs m l ∷ []) m (cache_after docs xs m l)
    by_last u own None found = new_place
    by_last u own (Some j) found = joined u j own found (nat_le (pages_sharing docs xs (get_or xs j 0) m + pages_in (document_at docs m)) 1000000)

    by_units : (o : Option Units) → units_in (document_at docs m) ≡ o → IsPlaced docs (xs ++ cache_for docs xs m o ∷ []) m (cache_for docs xs m o)
    by_units None own = new_place
    by_units (Some u) own = by_last u own (last_with docs u m) refl

    -- how many pages there are in the cache of the next job
    module _ (few : pages_in (document_at docs m) ≤ 1000000) where
      new_pages : pages_sharing docs xs m m + pages_in (document_at docs m) ≤ 1000000
      new_pages =
          let none : pages_sharing docs xs m m ≡ 0 = pages_none docs xs m m (λ j lt is. let at = placed j lt in let before = at.1.before in let same : at.0 ≡ m = sym at.1.is ∙ is in omega (arith, lt, before, same)) in
          omega (arith, none, few)

      joined_pages : (j : ℕ) (b : Bool) → nat_le (pages_sharing docs xs (get_or xs j 0) m + pages_in (document_at docs m)) 1000000 ≡ b
          → pages_sharing docs xs (if b then get_or xs j 0 else m) m + pages_in (document_at docs m) ≤ 1000000
      joined_pages j true fits = leb-true (pages_sharing docs xs (get_or xs j 0) m + pages_in (document_at docs m)) 1000000 fits
      joined_pages j false fits = new_pages

      last_pages : (l : Option ℕ) → pages_sharing docs xs (cache_after docs xs m l) m + pages_in (document_at docs m) ≤ 1000000
      last_pages None = new_pages
      last_pages (Some j) = joined_pages j (nat_le (pages_sharing docs xs (get_or xs j 0) m + pages_in (document_at docs m)) 1000000) refl

      units_pages : (o : Option Units) → pages_sharing docs xs (cache_for docs xs m o) m + pages_in (document_at docs m) ≤ 1000000
      units_pages None = new_pages
      units_pages (Some u) = last_pages (last_with docs u m)

pub count_below : (docs : Documents) (m : ℕ) → length (caches_below docs m) ≡ m
count_below docs zero = refl
count_below docs (suc m) =
    let rest = count_below docs m in
    let more = length_push (caches_below docs m) (cache_for docs (caches_below docs m) m (units_in (document_at docs m))) in
    omega (arith, rest, more)

pub placed_below : (docs : Documents) (m k : ℕ) → k < m → (f : ℕ) × IsPlaced docs (caches_below docs m) k f
placed_below docs zero k lt = absurd (omega arith)
placed_below docs (suc m) k lt = elim (cases_lt k m) [
  | inl below ↦
      let at = placed_below docs m k below in
      let long = count_below docs m in
      (at.0, placed_more docs (caches_below docs m) (cache_for docs (caches_below docs m) m (units_in (document_at docs m))) k at.0 (omega (arith, long, below)) at.1)
  | inr last ↦
      let same : m ≡ k = omega arith in
      let xs = caches_below docs m in
      let p = cache_for docs xs m (units_in (document_at docs m)) in
      (p, subst (λ (n : ℕ). IsPlaced docs (xs ++ p ∷ []) n p) same (by_units docs m xs (count_below docs m) (placed_below docs m) (units_in (document_at docs m)) refl))
]

module _ (docs : Documents) (few : (k : ℕ) → pages_in (document_at docs k) ≤ 1000000) (m : ℕ) where
  abbrev xs : List ℕ
  xs = caches_below docs m

  abbrev p : ℕ
  p = cache_for docs xs m (units_in (document_at docs m))

  abbrev ys : List ℕ
  ys = xs ++ p ∷ []

  here : get_or ys m 0 ≡ p
  here = get_or_push xs p 0 m (count_below docs m)

  same : (n : ℕ) → pages_sharing docs ys n m ≡ pages_sharing docs xs n m
  same n = let long = count_below docs m in pages_same docs ys xs n m (λ j lt. get_or_append_left xs (p ∷ []) 0 j (omega (arith, long, lt)))

  most : (n : ℕ) (b : Bool) → pages_sharing docs ys n m + (if b then pages_in (document_at docs m) else 0) ≤ pages_sharing docs xs n m + pages_in (document_at docs m)
  most n true = let s = same n in omega (arith, s)
  most n false = let s = same n in omega (arith, s)

  few_own : pages_sharing docs ys p (suc m) ≤ 1000000
  few_own =
      let all = units_pages docs m xs (count_below docs m) (placed_below docs m) (few m) (units_in (document_at docs m)) in
      let le = most p (get_or ys m 0 == p) in
      omega (arith, all, le)

  few_more : (f : ℕ) → pages_sharing docs xs f m ≤ 1000000 → pages_sharing docs ys f (suc m) ≤ 1000000
  few_more f before = dite (ℕ_discrete p f)
      (λ e. subst (λ (n : ℕ). pages_sharing docs ys n (suc m) ≤ 1000000) e few_own)
      (λ not.
      let other : (get_or ys m 0 == f) ≡ false = ne_eqb (get_or ys m 0) f (λ e. not (sym here ∙ e)) in
      let s = same f in
      subst (λ (b : Bool). pages_sharing docs ys f m + (if b then pages_in (document_at docs m) else 0) ≤ 1000000) (sym other) (omega (arith, s, before)))

pub few_below : (docs : Documents) → ((k : ℕ) → pages_in (document_at docs k) ≤ 1000000) → (m f : ℕ) → pages_sharing docs (caches_below docs m) f m ≤ 1000000
few_below docs few zero f = omega arith
few_below docs few (suc m) f = few_more docs few m f (few_below docs few m f)

-- the caches of one job more
pub more_caches : (docs : Documents) (k : ℕ) (xs ys zs : List ℕ) (next : ℕ) → xs ≡ caches_below docs k → length xs ≡ k → ys ≡ xs → next ≡ cache_for docs ys (length ys) (units_in (document_at docs (length ys)))
    → zs ≡ xs ++ next ∷ [] → zs ≡ caches_below docs (k + 1)
more_caches docs k xs ys zs next are long same is grew =
    let one : k + 1 ≡ suc k = omega arith in
    let here : cache_for docs ys (length ys) (units_in (document_at docs (length ys))) ≡ cache_for docs (caches_below docs k) k (units_in (document_at docs k)) =
    ap₂ (λ (l : List ℕ) (n : ℕ). cache_for docs l n (units_in (document_at docs n))) (same ∙ are) (ap length same ∙ long) in
    subst (λ (n : ℕ). zs ≡ caches_below docs n) (sym one) (grew ∙ ap₂ (λ (l : List ℕ) (n : ℕ). l ++ n ∷ []) are (is ∙ here))
