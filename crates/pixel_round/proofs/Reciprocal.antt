-- Quotients by a product with a reciprocal.
use Rattle.std.proofs.Common.{◌≡◌, ℕ, ◌+◌, ◌-◌, ◌*◌, ◌/◌, ◌^◌, ◌<◌, ◌≤◌, min, arith, sym, subst}
use Rattle.std.proofs.Math.Nat.{div-eq_of_lt-le, div-mul-le_self, lt-div-mul-add, mul-le-mul_left, mul-le-mul_right}

-- the quotient times the word is no more than the product
least : (w n b i q : ℕ) → q * b ≤ n → w < i * b + b → q * w ≤ n * (i + 1)
least w n b i q low high =
    let word : w ≤ i * b + b = omega (arith, high) in
    let a : q * w ≤ q * (i * b + b) = mul-le-mul_left q word in
    let c : q * b * (i + 1) ≤ n * (i + 1) = mul-le-mul_right (i + 1) low in
    let same : q * (i * b + b) ≡ q * b * (i + 1) = omega arith in
    omega (arith, a, c, same)

-- and one more is above it
most : (w n b i q : ℕ) → n < q * b + b → i * b ≤ w → n < i → n * (i + 1) < (q + 1) * w
most w n b i q high low below =
    let more : n + 1 ≤ q * b + b = omega (arith, high) in
    let a : (n + 1) * i ≤ (q * b + b) * i = mul-le-mul_right i more in
    let c : (q + 1) * (i * b) ≤ (q + 1) * w = mul-le-mul_left (q + 1) low in
    let same : (q * b + b) * i ≡ (q + 1) * (i * b) = omega arith in
    let one : n * (i + 1) < (n + 1) * i = omega (arith, below) in
    omega (arith, a, c, same, one)

by_word : (w n b i : ℕ) → 0 < b → i ≡ w / b → n < i → n * (i + 1) / w ≡ n / b
by_word w n b i some is below =
    let under : i * b ≤ w = subst (λ (x : ℕ). x * b ≤ w) (sym is) (div-mul-le_self w b) in
    let over : w < i * b + b = subst (λ (x : ℕ). w < x * b + b) (sym is) (lt-div-mul-add some) in
    div-eq_of_lt-le w (least w n b i (n / b) (div-mul-le_self n b) over) (most w n b i (n / b) (lt-div-mul-add some) under below)

pub by_reciprocal : (n b i : ℕ) → 0 < b → i ≡ 2 ^ 64 / b → n < i → n * (i + 1) / 2 ^ 64 ≡ n / b
by_reciprocal n b i some is below = by_word (2 ^ 64) n b i some is below

-- the product fits
pub fits : (n i : ℕ) → n < i → i < 2 ^ 64 → n * (i + 1) < 2 ^ 128
fits n i below small =
    let a : n * (i + 1) ≤ n * 2 ^ 64 = mul-le-mul_left n (omega arith) in
    omega (arith, a, below, small)

-- a size below the reach of a fraction t by b, of which r is the reciprocal
pub record IsReached (t b r s twice : ℕ) : Type 0 where
  pub product : s * twice ≡ 2 * (s * t)
  pub small : 2 * (s * t) + b < r
  pub narrow : r < 2 ^ 64

half : (b r : ℕ) → 0 < b → r ≡ 2 ^ 64 / (2 * b) → r < 2 ^ 64
half b r some is =
    let under : r * (2 * b) ≤ 2 ^ 64 = subst (λ (x : ℕ). x * (2 * b) ≤ 2 ^ 64) (sym is) (div-mul-le_self (2 ^ 64) (2 * b)) in
    let one : 1 ≤ b = omega (arith, some) in
    let least : r * 1 ≤ r * b = mul-le-mul_left r one in
    omega (arith, under, least)

-- by the quotient that is the reach
below_reach : (t b r s : ℕ) → 0 < t → s < (r - b) / (2 * t) → 2 * (s * t) + 2 * t + b ≤ r
below_reach t b r s some lt =
    let under : (r - b) / (2 * t) * (2 * t) ≤ r - b = div-mul-le_self (r - b) (2 * t) in
    let more : s + 1 ≤ (r - b) / (2 * t) = omega (arith, lt) in
    let times : (s + 1) * (2 * t) ≤ (r - b) / (2 * t) * (2 * t) = mul-le-mul_right (2 * t) more in
    let same : (s + 1) * (2 * t) ≡ 2 * (s * t) + 2 * t = omega arith in
    omega (arith, under, times, same, some)

pub in_reach : (t b r s twice reach : ℕ) → 0 < t → 0 < b → r ≡ 2 ^ 64 / (2 * b) → twice ≡ min (2 * t) (2 ^ 64 - 1)
    → reach ≡ (2 ^ 64 / (2 * b) - b) / (2 * t) → s < reach → IsReached t b r s twice
in_reach t b r s twice reach some other is twice_is reach_is lt =
    let narrow : r < 2 ^ 64 = half b r other is in
    let lt' : s < (r - b) / (2 * t) = subst (λ (x : ℕ). s < (x - b) / (2 * t)) (sym is) (subst (λ (x : ℕ). s < x) reach_is lt) in
    let most : 2 * (s * t) + 2 * t + b ≤ r = below_reach t b r s some lt' in
    let exact : twice ≡ 2 * t = omega (arith, twice_is, most, narrow) in
    let moved : s * (2 * t) ≡ 2 * (s * t) = omega arith in
    record {
      product = subst (λ (x : ℕ). s * x ≡ 2 * (s * t)) (sym exact) moved;
      small = omega (arith, most, some);
      narrow = narrow;
    }
