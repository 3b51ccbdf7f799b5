-- All results of a round were taken, in their order.
use Rattle.std.proofs.Common.{◌≡◌, ◌⊎◌, inl, inr, ℕ, ◌+◌, ◌-◌, ◌<◌, ◌≤◌, List, [], ◌∷◌, ◌++◌, length, get_or, Contains, refl, sym, subst, ◌∙◌, arith}
use Rattle.std.specs.List.Sorted.{IsStrictlyIncreasing}
use Rattle.std.proofs.lemmas.Bool.{cases_lt}
use Rattle.std.proofs.lemmas.List.Elements.{Contains-append_cases, Contains-append_left, Contains-append_right}
use Rattle.rtrb.specs.Ring.{received, known_items}
use Rattle.page_workers.specs.declared.rings.Inlet.{Inlet}
use Rattle.page_workers.specs.declared.worker.PageResult.{PageResult}
use Rattle.page_workers.specs.Rounds.{pages_of}
use Rattle.page_workers.specs.Handing.{HasAtHead, TookSome}
use Rattle.page_workers.proofs.InOrder.{at_index, from_inside, head_lowest, last_part_rises, of_page, page_in, parts_rise}
use Rattle.page_workers.proofs.Taken.{all_of}

module _ {W O : Type 0} (Takes : W → O → PageResult → W → O → Type 0) (first count m total n : ℕ) (start after : List Inlet) (results : List PageResult) (w : W) (o : O) (v : W) (p : O)
    (took : TookSome Takes first total start after results w o v p) (long : length start ≡ n) (e : Inlet) (most : m ≤ count) (drawn : ℕ → List PageResult)
    (sends : (k : ℕ) (d : Inlet) → k < n → all_of (get_or after k d) ≡ drawn k) (rising : (k : ℕ) → k < n → IsStrictlyIncreasing (pages_of (drawn k)))
    (inside : (k page : ℕ) → k < n → Contains (pages_of (drawn k)) page → (first ≤ page) × (page < first + m))
    (shared : (i : ℕ) → i < m → (k : ℕ) × (k < n) × Contains (pages_of (drawn k)) (first + i) × ((j : ℕ) → j < n → Contains (pages_of (drawn j)) (first + i) → j ≡ k))
    (ended : (total ≡ count) ⊎ ((k : ℕ) (d : Inlet) → k < n → HasAtHead (first + total) (known_items (get_or after k d).results) → ⊥)) where
  abbrev taken_of : ℕ → List PageResult
  taken_of k = received (get_or after k e).results

  abbrev left_of : ℕ → List PageResult
  left_of k = known_items (get_or after k e).results

  in_start : (k : ℕ) → k < n → k < length start
  in_start k lt = omega (arith, long)

  is_drawn : (k : ℕ) → k < n → taken_of k ++ left_of k ≡ drawn k
  is_drawn k lt = sends k e lt

  rises : (k : ℕ) → k < n → IsStrictlyIncreasing (pages_of (taken_of k ++ left_of k))
  rises k lt = subst (λ (l : List PageResult). IsStrictlyIncreasing (pages_of l)) (sym (is_drawn k lt)) (rising k lt)

  taken_drawn : (k : ℕ) (r : PageResult) → k < n → Contains (taken_of k) r → Contains (drawn k) r
  taken_drawn k r lt has = subst (λ (l : List PageResult). Contains l r) (is_drawn k lt) (Contains-append_left (taken_of k) (left_of k) r has)

  left_drawn : (k : ℕ) (r : PageResult) → k < n → Contains (left_of k) r → Contains (drawn k) r
  left_drawn k r lt has = subst (λ (l : List PageResult). Contains l r) (is_drawn k lt) (Contains-append_right (taken_of k) (left_of k) r has)

  -- who sent a result that was taken
  owner : (r : PageResult) → Contains results r → (k : ℕ) × (k < n) × Contains (taken_of k) r
  owner r has = let own = took.owned r has in (own.0, omega (arith, own.1, long), own.2 e)

  -- a result that was taken isn't left
  not_left : (k : ℕ) (q : PageResult) → k < n → Contains (left_of k) q → q.page < first + total → ⊥
  not_left k q lt has low =
      let low_page = inside k q.page lt (page_in (drawn k) q (left_drawn k q lt has)) in
      let i = q.page - first in
      let at : first + i ≡ q.page = omega (arith, low_page.0) in
      let one = at_index first results i took.are (let size = took.long in omega (arith, low, size, low_page.0)) in
      let same : one.0.page ≡ q.page = one.2 ∙ at in
      let own = owner one.0 one.1 in
      let share = shared i (omega (arith, low_page.0, low_page.1)) in
      let mine : k ≡ share.0 = share.3 k lt (subst (λ (x : ℕ). Contains (pages_of (drawn k)) x) (sym at) (page_in (drawn k) q (left_drawn k q lt has))) in
      let theirs : own.0 ≡ share.0 =
      share.3 own.0 own.1 (subst (λ (x : ℕ). Contains (pages_of (drawn own.0)) x) one.2 (page_in (drawn own.0) one.0 (taken_drawn own.0 one.0 own.1 own.2))) in
      let there : Contains (taken_of k) one.0 = subst (λ (j : ℕ). Contains (taken_of j) one.0) (theirs ∙ sym mine) own.2 in
      let up = parts_rise (taken_of k) (left_of k) (rises k lt) one.0 q there has in
      absurd (omega (arith, up, same))

  few : total ≤ m
  few = elim (cases_lt m total) [
    | inl more ↦
        let one = at_index first results m took.are (let size = took.long in omega (arith, more, size)) in
        let own = owner one.0 one.1 in
        let low = inside own.0 one.0.page own.1 (page_in (drawn own.0) one.0 (taken_drawn own.0 one.0 own.1 own.2)) in
        absurd (let is = one.2 in omega (arith, low.1, is))
    | inr le ↦ le
  ]

  at_head : (k : ℕ) → k < n → (rs : List PageResult) → left_of k ≡ rs → (r : PageResult) → Contains rs r → r.page ≡ first + total → HasAtHead (first + total) rs
  at_head k lt [] is r has page = absurd (let less : has.0 < 0 = has.1 in omega arith)
  at_head k lt (q ∷ rs) is r has page =
      let low = head_lowest q rs (subst (λ (l : List PageResult). IsStrictlyIncreasing (pages_of l)) is (last_part_rises (taken_of k) (left_of k) (rises k lt))) r has in
      let here : Contains (left_of k) q = subst (λ (l : List PageResult). Contains l q) (sym is) (0, omega arith, refl) in
      let high : first + total ≤ q.page = elim (cases_lt q.page (first + total)) [ inl less ↦ absurd (not_left k q lt here less) | inr le ↦ le ] in
      (q, rs, refl, omega (arith, low, high, page))

  pub all_taken : total ≡ m
  all_taken = elim (cases_lt total m) [
    | inl less ↦
        let share = shared total less in
        let k = share.0 in
        let one = of_page (drawn k) (first + total) share.2 in
        let has : Contains (taken_of k ++ left_of k) one.0 = subst (λ (l : List PageResult). Contains l one.0) (sym (is_drawn k share.1)) one.1 in
        elim (Contains-append_cases (taken_of k) (left_of k) one.0 has) [
          | inl before ↦
              let at = from_inside first results took.are one.0 (took.all k e one.0 (in_start k share.1) before) in
              absurd (let page = one.2 in let size = took.long in omega (arith, at.1, page, size))
          | inr left ↦ elim ended [
            | inl full ↦ absurd (omega (arith, full, less, most))
            | inr none ↦ absurd (none k e share.1 (at_head k share.1 (left_of k) refl one.0 left one.2))
          ]
        ]
    | inr more ↦ let le = few in omega (arith, more, le)
  ]

  pub each_owned : (r : PageResult) → Contains results r → (k : ℕ) × (k < n) × Contains (drawn k) r
  each_owned r has = let own = owner r has in (own.0, own.1, taken_drawn own.0 r own.1 own.2)

  pub each_in : (k : ℕ) (r : PageResult) → k < n → Contains (drawn k) r → Contains results r
  each_in k r lt has = elim (Contains-append_cases (taken_of k) (left_of k) r (subst (λ (l : List PageResult). Contains l r) (sym (is_drawn k lt)) has)) [
    | inl before ↦ took.all k e r (in_start k lt) before
    | inr left ↦
        let low = inside k r.page lt (page_in (drawn k) r has) in
        let all = all_taken in
        absurd (not_left k r lt left (omega (arith, low.1, all)))
  ]
