-- Sums over the first numbers.
use Rattle.std.proofs.Common.{◌≡◌, ℕ, zero, suc, ◌+◌, ◌<◌, ◌≤◌, refl, ap₂, sym, subst, arith, inl, inr}
use Rattle.std.proofs.lemmas.Bool.{cases_lt}
use Rattle.job_spool.specs.Sums.{sum_below}

pub sum_same : (f g : ℕ → ℕ) (n : ℕ) → ((k : ℕ) → k < n → f k ≡ g k) → sum_below f n ≡ sum_below g n
sum_same f g zero same = refl
sum_same f g (suc n) same = ap₂ (λ (a b : ℕ). a + b) (sum_same f g n (λ k lt. same k (omega arith))) (same n (omega arith))

pub sum_more : (f g : ℕ → ℕ) (n : ℕ) → ((k : ℕ) → k < n → f k ≤ g k) → sum_below f n ≤ sum_below g n
sum_more f g zero le = omega arith
sum_more f g (suc n) le =
    let rest = sum_more f g n (λ k lt. le k (omega arith)) in
    let here = le n (omega arith) in
    omega (arith, rest, here)

-- and one of them is greater
pub sum_greater : (f g : ℕ → ℕ) (n i : ℕ) → i < n → ((k : ℕ) → k < n → f k ≤ g k) → f i < g i → sum_below f n + 1 ≤ sum_below g n
sum_greater f g zero i lt le more = absurd (omega arith)
sum_greater f g (suc n) i lt le more = elim (cases_lt i n) [
  | inl before ↦
      let rest = sum_greater f g n i before (λ k l. le k (omega arith)) more in
      let here = le n (omega arith) in
      omega (arith, rest, here)
  | inr at ↦
      let same : i ≡ n = omega arith in
      let rest = sum_more f g n (λ k l. le k (omega arith)) in
      let here : f n < g n = subst (λ (k : ℕ). f k < g k) same more in
      omega (arith, rest, here)
]

-- one of them alone is another
pub sum_changed : (f g : ℕ → ℕ) (n i : ℕ) → i < n → ((k : ℕ) → (k ≡ i → ⊥) → f k ≡ g k) → sum_below f n + g i ≡ sum_below g n + f i
sum_changed f g zero i lt same = absurd (omega arith)
sum_changed f g (suc n) i lt same = elim (cases_lt i n) [
  | inl before ↦
      let rest = sum_changed f g n i before same in
      let here : f n ≡ g n = same n (λ e. omega arith) in
      omega (arith, rest, here)
  | inr at ↦
      let is : i ≡ n = omega arith in
      let rest = sum_same f g n (λ k l. same k (λ e. omega arith)) in
      subst (λ (k : ℕ). sum_below f n + f n + g k ≡ sum_below g n + g n + f k) (sym is) (omega (arith, rest))
]

-- where a sum is greater, one of its numbers is
pub some_greater : (f g : ℕ → ℕ) (n : ℕ) → sum_below f n < sum_below g n → (k : ℕ) × (k < n) × (f k < g k)
some_greater f g zero lt = absurd (omega arith)
some_greater f g (suc n) lt = elim (cases_lt (f n) (g n)) [
  | inl here ↦ (n, omega arith, here)
  | inr not ↦ let rest = some_greater f g n (omega (arith, lt, not)) in (rest.0, omega (arith, rest.1), rest.2)
]
