-- Pages that workers share, and those of one round more.
use Rattle.std.proofs.Common.{◌≡◌, ◌⊎◌, inl, inr, ℕ, ◌+◌, ◌-◌, ◌<◌, ◌≤◌, List, [], ◌++◌, length, get_or, Contains, sym, subst, arith}
use Rattle.std.specs.List.Sorted.{IsStrictlyIncreasing}
use Rattle.std.proofs.lemmas.Bool.{cases_lt}
use Rattle.std.proofs.lemmas.List.{get_or_append_left, get_or-append-add, length-append}
use Rattle.std.proofs.lemmas.List.Elements.{Contains-get_or, Contains-append_left, Contains-append_right, Contains-append_cases}
use Rattle.dvi_run.specs.Shares.{ArePartitioned}

-- numbers that rise, and then others above them
pub rising_more : (xs ys : List ℕ) (mid : ℕ) → IsStrictlyIncreasing xs → IsStrictlyIncreasing ys → ((p : ℕ) → Contains xs p → p < mid) → ((p : ℕ) → Contains ys p → mid ≤ p)
    → IsStrictlyIncreasing (xs ++ ys)
rising_more xs ys mid rx ry low high k lt =
    let long : length (xs ++ ys) ≡ length xs + length ys = length-append xs ys in
    elim (cases_lt (k + 1) (length xs)) [
      | inl inside ↦
          let here : get_or (xs ++ ys) k 0 ≡ get_or xs k 0 = get_or_append_left xs ys 0 k (omega arith) in
          let next : get_or (xs ++ ys) (k + 1) 0 ≡ get_or xs (k + 1) 0 = get_or_append_left xs ys 0 (k + 1) inside in
          let rises : get_or xs k 0 < get_or xs (k + 1) 0 = rx k inside in
          omega (arith, here, next, rises)
      | inr above ↦ elim (cases_lt k (length xs)) [
        | inl last ↦
            let here : get_or (xs ++ ys) k 0 ≡ get_or xs k 0 = get_or_append_left xs ys 0 k last in
            let at : length xs + 0 ≡ k + 1 = omega arith in
            let next : get_or (xs ++ ys) (k + 1) 0 ≡ get_or ys 0 0 = subst (λ (n : ℕ). get_or (xs ++ ys) n 0 ≡ get_or ys 0 0) at (get_or-append-add xs ys 0 0) in
            let below : get_or xs k 0 < mid = low (get_or xs k 0) (Contains-get_or xs k 0 last) in
            let from : mid ≤ get_or ys 0 0 = high (get_or ys 0 0) (Contains-get_or ys 0 0 (omega arith)) in
            omega (arith, here, next, below, from)
        | inr out ↦
            let i = k - length xs in
            let at : length xs + i ≡ k = omega arith in
            let after : length xs + (i + 1) ≡ k + 1 = omega arith in
            let here : get_or (xs ++ ys) k 0 ≡ get_or ys i 0 = subst (λ (n : ℕ). get_or (xs ++ ys) n 0 ≡ get_or ys i 0) at (get_or-append-add xs ys i 0) in
            let next : get_or (xs ++ ys) (k + 1) 0 ≡ get_or ys (i + 1) 0 = subst (λ (n : ℕ). get_or (xs ++ ys) n 0 ≡ get_or ys (i + 1) 0) after (get_or-append-add xs ys (i + 1) 0) in
            let rises : get_or ys i 0 < get_or ys (i + 1) 0 = ry i (omega arith) in
            omega (arith, here, next, rises)
      ]
    ]

-- none were drawn yet
pub none_shared : (n : ℕ) (pages : ℕ → List ℕ) → ((k : ℕ) → k < n → pages k ≡ []) → ArePartitioned 0 n pages
none_shared n pages none = record {
  rising = λ k lt. subst IsStrictlyIncreasing (sym (none k lt)) (λ i more. absurd (omega arith));
  inside = λ k page lt h. let has : Contains [] page = subst (λ (l : List ℕ). Contains l page) (none k lt) h in let less : has.0 < 0 = has.1 in absurd (omega arith);
  shared = λ page below. absurd (omega arith);
}

-- the same pages
pub shared_as : (total n : ℕ) (old new : ℕ → List ℕ) → ((k : ℕ) → k < n → new k ≡ old k) → ArePartitioned total n old → ArePartitioned total n new
shared_as total n old new same s = record {
  rising = λ k lt. subst IsStrictlyIncreasing (sym (same k lt)) (s.rising k lt);
  inside = λ k page lt h. s.inside k page lt (subst (λ (l : List ℕ). Contains l page) (same k lt) h);
  shared = λ page below.
      let one = s.shared page below in
      (one.0, one.1, subst (λ (l : List ℕ). Contains l page) (sym (same one.0 one.1)) one.2, λ j lt h. one.3 j lt (subst (λ (l : List ℕ). Contains l page) (same j lt) h));
}

-- a round more, of m pages
module _ (total m n : ℕ) (old new drawn : ℕ → List ℕ) (grew : (k : ℕ) → k < n → new k ≡ old k ++ drawn k) (s : ArePartitioned total n old) (rising : (k : ℕ) → k < n → IsStrictlyIncreasing (drawn k))
    (inside : (k page : ℕ) → k < n → Contains (drawn k) page → (total ≤ page) × (page < total + m))
    (shared : (i : ℕ) → i < m → (k : ℕ) × (k < n) × Contains (drawn k) (total + i) × ((j : ℕ) → j < n → Contains (drawn j) (total + i) → j ≡ k)) where
  in_new : (k page : ℕ) → k < n → Contains (new k) page → Contains (old k) page ⊎ Contains (drawn k) page
  in_new k page lt h = Contains-append_cases (old k) (drawn k) page (subst (λ (l : List ℕ). Contains l page) (grew k lt) h)

  abbrev IsOnes : ℕ → Type 0
  IsOnes page = (k : ℕ) × (k < n) × Contains (new k) page × ((j : ℕ) → j < n → Contains (new j) page → j ≡ k)

  shared_old : (page : ℕ) → page < total → IsOnes page
  shared_old page below =
      let one = s.shared page below in (
        one.0,
        one.1,
        subst (λ (l : List ℕ). Contains l page) (sym (grew one.0 one.1)) (Contains-append_left (old one.0) (drawn one.0) page one.2),
        λ j lt h. elim (in_new j page lt h) [ inl was ↦ one.3 j lt was | inr now ↦ absurd (let low = (inside j page lt now).0 in omega arith) ],
      )

  shared_new : (i : ℕ) → i < m → IsOnes (total + i)
  shared_new i below =
      let one = shared i below in (
        one.0,
        one.1,
        subst (λ (l : List ℕ). Contains l (total + i)) (sym (grew one.0 one.1)) (Contains-append_right (old one.0) (drawn one.0) (total + i) one.2),
        λ j lt h. elim (in_new j (total + i) lt h) [ inl was ↦ absurd (let low = s.inside j (total + i) lt was in omega arith) | inr now ↦ one.3 j lt now ],
      )

  pub shared_more : ArePartitioned (total + m) n new
  shared_more = record {
    rising = λ k lt. subst IsStrictlyIncreasing (sym (grew k lt))
        (rising_more (old k) (drawn k) total (s.rising k lt) (rising k lt) (λ p h. s.inside k p lt h) (λ p h. (inside k p lt h).0));
    inside = λ k page lt h. elim (in_new k page lt h) [
      | inl was ↦ let low = s.inside k page lt was in omega arith
      | inr now ↦ (inside k page lt now).1
    ];
    shared = λ page below. elim (cases_lt page total) [
      | inl low ↦ shared_old page low
      | inr high ↦
          let at : total + (page - total) ≡ page = omega arith in
          subst (λ (p : ℕ). IsOnes p) at (shared_new (page - total) (omega arith))
    ];
  }
