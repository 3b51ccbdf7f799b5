-- Sums of what a function gives.
use Rattle.std.proofs.Common.{◌≡◌, ◌∙◌, inl, inr, ℕ, zero, suc, ◌+◌, ◌<◌, ◌≤◌, ◌*◌, ◌^◌, ◌⊎◌, cond, ltb, get_or, set, length, refl, sym, ap, ap₂, arith, get_or-set_other, get_or-set_same}
use Rattle.std.proofs.lemmas.Bool.{cases_eq, cases_lt, cond-false, cond-true, le-ltb, lt-ltb}
use Rattle.pk_packer.specs.Counts.{nybbles_past, sum_below, taken}
use Rattle.pk_packer.specs.declared.tally.Tally.{Tally}

pub sum_same : (g h : ℕ → ℕ) (n : ℕ) → ((j : ℕ) → j < n → g j ≡ h j) → sum_below g n ≡ sum_below h n
sum_same g h zero same = refl
sum_same g h (suc n) same = ap₂ (λ (a b : ℕ). a + b) (sum_same g h n (λ j below. same j (omega (arith, below)))) (same n (omega arith))

pub sum_next : (g : ℕ → ℕ) (n : ℕ) → sum_below g (n + 1) ≡ sum_below g n + g n
sum_next g n = let next : n + 1 ≡ suc n = omega arith in ap (sum_below g) next

-- functions that differ at one place
pub sum_differ : (g h : ℕ → ℕ) (k n : ℕ) → k < n → ((j : ℕ) → (j ≡ k → ⊥) → g j ≡ h j) → sum_below h n + g k ≡ sum_below g n + h k
sum_differ g h k zero inside same = absurd (omega (arith, inside))
sum_differ g h k (suc n) inside same = elim (cases_eq n k) [
  | inl at ↦ omega (arith, sum_same g h n (λ j below. same j (λ e. absurd (omega (arith, e, at, below)))), ap g at, ap h at)
  | inr other ↦ omega (arith, sum_differ g h k n (omega (arith, inside, other)) same, same n other)
]

-- ---- a tally

-- one number more
pub tally_more : (t : Tally) (turn k b w f : ℕ) → k < length t.before → k < length t.from → k < 15 → (turn < 14 → k ≡ turn) → (14 ≤ turn → k ≡ 14) → f < 14
    → nybbles_past (record { before = set t.before k (get_or t.before k 0 + b); from = set t.from k (get_or t.from k 0 + w) }) (f + 1) ≡ nybbles_past t (f + 1) + cond (ltb f turn) b w
unfolding nybbles_past
tally_more t turn k b w f in_before in_from inside low high form = omega (arith, sum_differ g h k 15 inside same, here (cases_lt k (f + 1)))
  where
    new : Tally
    new = record { before = set t.before k (get_or t.before k 0 + b); from = set t.from k (get_or t.from k 0 + w) }

    g : ℕ → ℕ
    g = taken new (f + 1)

    h : ℕ → ℕ
    h = taken t (f + 1)

    same : (j : ℕ) → (j ≡ k → ⊥) → g j ≡ h j
    same j other = ap₂ (cond (ltb j (f + 1))) (get_or-set_other t.from k j (get_or t.from k 0 + w) 0 other) (get_or-set_other t.before k j (get_or t.before k 0 + b) 0 other)

    here : (k < f + 1) ⊎ (f + 1 ≤ k) → g k ≡ h k + cond (ltb f turn) b w
    here (inl past) = elim (cases_lt turn 14) [
      | inl below ↦
          cond-true (ltb k (f + 1)) (get_or new.from k 0) (get_or new.before k 0) (lt-ltb k (f + 1) past)
          ∙ get_or-set_same t.from k (get_or t.from k 0 + w) 0 in_from
          ∙ sym (ap₂ (λ (x y : ℕ). x + y) (cond-true (ltb k (f + 1)) (get_or t.from k 0) (get_or t.before k 0) (lt-ltb k (f + 1) past)) (cond-false (ltb f turn) b w (le-ltb f turn (omega (arith, past, low below)))))
      | inr above ↦ absurd (omega (arith, past, high above, form))
    ]
    here (inr behind) =
        cond-false (ltb k (f + 1)) (get_or new.from k 0) (get_or new.before k 0) (le-ltb k (f + 1) behind)
        ∙ get_or-set_same t.before k (get_or t.before k 0 + b) 0 in_before
        ∙ sym (ap₂ (λ (x y : ℕ). x + y) (cond-false (ltb k (f + 1)) (get_or t.from k 0) (get_or t.before k 0) (le-ltb k (f + 1) behind)) (cond-true (ltb f turn) b w (lt-ltb f turn (before_turn (cases_lt turn 14)))))
      where
        before_turn : (turn < 14) ⊎ (14 ≤ turn) → f < turn
        before_turn (inl below) = omega (arith, behind, low below)
        before_turn (inr above) = omega (arith, form, above)

-- one turn more
pub turn_more : (t : Tally) (f : ℕ) → f < 15 → nybbles_past t (f + 1) + get_or t.before f 0 ≡ nybbles_past t f + get_or t.from f 0
unfolding nybbles_past
turn_more t f inside = omega (arith, sum_differ (taken t (f + 1)) (taken t f) f 15 inside same, now, before)
  where
    now : taken t (f + 1) f ≡ get_or t.from f 0
    now = cond-true (ltb f (f + 1)) (get_or t.from f 0) (get_or t.before f 0) (lt-ltb f (f + 1) (omega arith))

    before : taken t f f ≡ get_or t.before f 0
    before = cond-false (ltb f f) (get_or t.from f 0) (get_or t.before f 0) (le-ltb f f (omega arith))

    same : (j : ℕ) → (j ≡ f → ⊥) → taken t (f + 1) j ≡ taken t f j
    same j other = elim (cases_lt j f) [
      | inl below ↦
          cond-true (ltb j (f + 1)) (get_or t.from j 0) (get_or t.before j 0) (lt-ltb j (f + 1) (omega (arith, below)))
          ∙ sym (cond-true (ltb j f) (get_or t.from j 0) (get_or t.before j 0) (lt-ltb j f below))
      | inr above ↦
          cond-false (ltb j (f + 1)) (get_or t.from j 0) (get_or t.before j 0) (le-ltb j (f + 1) (omega (arith, above, other)))
          ∙ sym (cond-false (ltb j f) (get_or t.from j 0) (get_or t.before j 0) (le-ltb j f above))
    ]

-- where none has passed
pub first_taken : (t : Tally) (k : ℕ) → taken t 0 k ≡ get_or t.before k 0
first_taken t k = cond-false (ltb k 0) (get_or t.from k 0) (get_or t.before k 0) (le-ltb k 0 (omega arith))

sum_few : (t : Tally) (p n : ℕ) → ((k : ℕ) → get_or t.before k 0 < 2 ^ 41) → ((k : ℕ) → get_or t.from k 0 < 2 ^ 41) → sum_below (taken t p) n ≤ n * 2 ^ 41
sum_few t p zero before from = omega arith
sum_few t p (suc n) before from = elim (cases_lt n p) [
  | inl below ↦ omega (arith, sum_few t p n before from, cond-true (ltb n p) (get_or t.from n 0) (get_or t.before n 0) (lt-ltb n p below), from n)
  | inr above ↦ omega (arith, sum_few t p n before from, cond-false (ltb n p) (get_or t.from n 0) (get_or t.before n 0) (le-ltb n p above), before n)
]

pub few_before : (t : Tally) (n : ℕ) → ((k : ℕ) → get_or t.before k 0 < 2 ^ 41) → sum_below (taken t 0) n ≤ n * 2 ^ 41
few_before t zero before = omega arith
few_before t (suc n) before = omega (arith, few_before t n before, first_taken t n, before n)

pub few_past : (t : Tally) (p : ℕ) → ((k : ℕ) → get_or t.before k 0 < 2 ^ 41) → ((k : ℕ) → get_or t.from k 0 < 2 ^ 41) → nybbles_past t p ≤ 15 * 2 ^ 41
unfolding nybbles_past
few_past t p before from = sum_few t p 15 before from

sum_none : (g : ℕ → ℕ) (n : ℕ) → ((j : ℕ) → g j ≡ 0) → sum_below g n ≡ 0
sum_none g zero none = refl
sum_none g (suc n) none = omega (arith, sum_none g n none, none n)

pub past_none : (t : Tally) (p : ℕ) → ((k : ℕ) → get_or t.before k 0 ≡ 0) → ((k : ℕ) → get_or t.from k 0 ≡ 0) → nybbles_past t p ≡ 0
unfolding nybbles_past
past_none t p before from = sum_none (taken t p) 15 each
  where
    each : (j : ℕ) → taken t p j ≡ 0
    each j = elim (cases_lt j p) [
      | inl below ↦ cond-true (ltb j p) (get_or t.from j 0) (get_or t.before j 0) (lt-ltb j p below) ∙ from j
      | inr above ↦ cond-false (ltb j p) (get_or t.from j 0) (get_or t.before j 0) (le-ltb j p above) ∙ before j
    ]
