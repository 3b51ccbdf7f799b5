-- How many nybbles numbers take by each dyn_f.
use Rattle.std.proofs.Common.{◌≡◌, ◌∙◌, inl, inr, ℕ, zero, suc, ◌+◌, ◌-◌, ◌*◌, ◌/◌, ◌^◌, ◌<◌, ◌≤◌, cond, ltb, length, refl, sym, ap, arith}
use Rattle.std.proofs.Math.Nat.{pow-suc}
use Rattle.std.proofs.Math.Pow.{pow_mono}
use Rattle.std.specs.Int.Count.{count_leading_zeros}
use Rattle.std.specs.Int.Digits.{digits_of}
use Rattle.std.proofs.lemmas.Bool.{cases_lt, cond-false, cond-true, le-ltb, lt-ltb}
use Rattle.std.proofs.lemmas.Int.Digits.{length-digits_of-le, length-digits_of_step}
use Rattle.std.proofs.lemmas.Nat.{leading_length, pow-add}
use Rattle.pk_packer.specs.Spelling.{greatest_short, long_text, number_text, repeat_text}
use Rattle.pk_packer.proofs.HexDigits.{length-long_text, two_digits}
use Rattle.pk_packer.proofs.Spelled.{many_nybbles, one_nybble, two_nybbles}

-- ---- in two parts

pub by_turn : (f turn before from n : ℕ) → (f < turn → before ≡ n) → (turn ≤ f → from ≡ n) → cond (ltb f turn) before from ≡ n
by_turn f turn before from n low high = elim (cases_lt f turn) [
  | inl below ↦ cond-true (ltb f turn) before from (lt-ltb f turn below) ∙ low below
  | inr above ↦ cond-false (ltb f turn) before from (le-ltb f turn above) ∙ high above
]

pub few_by : (f turn before from m : ℕ) → before ≤ m → from ≤ m → cond (ltb f turn) before from ≤ m
few_by f turn before from m low high = elim (cases_lt f turn) [
  | inl below ↦ omega (arith, cond-true (ltb f turn) before from (lt-ltb f turn below), low)
  | inr above ↦ omega (arith, cond-false (ltb f turn) before from (le-ltb f turn above), high)
]

-- one more by each
pub more_by : (f turn before from n : ℕ) → cond (ltb f turn) before from ≡ n → cond (ltb f turn) (before + 1) (from + 1) ≡ n + 1
more_by f turn before from n e = elim (cases_lt f turn) [
  | inl below ↦ cond-true (ltb f turn) (before + 1) (from + 1) (lt-ltb f turn below) ∙ ap (λ k. k + 1) (sym (cond-true (ltb f turn) before from (lt-ltb f turn below)) ∙ e)
  | inr above ↦ cond-false (ltb f turn) (before + 1) (from + 1) (le-ltb f turn above) ∙ ap (λ k. k + 1) (sym (cond-false (ltb f turn) before from (le-ltb f turn above)) ∙ e)
]

-- ---- numbers of one, two and three nybbles

pub one_long : (f n : ℕ) → n ≤ f → 1 ≡ length (number_text f n)
one_long f n low = sym (ap length (one_nybble f n low))

pub two_long : (f n : ℕ) → f < n → n ≤ greatest_short f → 2 ≡ length (number_text f n)
two_long f n high low = sym (ap length (two_nybbles f n high low))

pub three_long : (f n : ℕ) → f < n → greatest_short f < n → n + 15 - greatest_short f < 256 → 3 ≡ length (number_text f n)
three_long f n high large few =
    let v : ℕ = n + 15 - greatest_short f in
    let long : 16 ≤ v = omega (arith, large) in
    omega (arith, ap length (many_nybbles f n high large), length-long_text v (omega (arith, long)), two_digits v long, length-digits_of-le 16 2 v (omega arith) (omega (arith, few)))

-- ---- digits

digits_between : (k v : ℕ) → 16 ^ k ≤ v → v < 16 ^ suc k → length (digits_of 16 v) ≡ suc k
digits_between zero v low high =
    let one : 16 ^ 1 ≡ 16 = omega arith in
    omega (arith, length-digits_of_step 16 v (omega arith) (omega (arith, low)), length-digits_of-le 16 0 (v / 16) (omega arith) (omega (arith, high, one)))
digits_between (suc k) v low high =
    let less : 16 ^ k ≤ v / 16 = omega (arith, low, pow-suc 16 k) in
    let more : v / 16 < 16 ^ suc k = omega (arith, high, pow-suc 16 (suc k)) in
    let some : 0 < v = omega (arith, high, low, pow-suc 16 k, pow-suc 16 (suc k)) in
    omega (arith, length-digits_of_step 16 v (omega arith) some, digits_between k (v / 16) less more)

pub digits_exact : (d v : ℕ) → 1 ≤ d → 16 ^ (d - 1) ≤ v → v < 16 ^ d → length (digits_of 16 v) ≡ d
digits_exact zero v some low high = absurd (omega (arith, some))
digits_exact (suc k) v some low high =
    let less : suc k - 1 ≡ k = omega arith in
    digits_between k v (omega (arith, low, ap (λ (j : ℕ). 16 ^ j) less)) high

-- as many digits as there are groups of four bits from the highest one on
sixteens : (k : ℕ) → 16 ^ k ≡ 2 ^ (4 * k)
sixteens zero = refl
sixteens (suc k) =
    let four : 4 * suc k ≡ 4 * k + 4 = omega arith in
    omega (arith, pow-suc 16 k, sixteens k, ap (λ (j : ℕ). 2 ^ j) four, pow-add 2 (4 * k) 4)

by_bits : (v c m : ℕ) → c + m ≡ 32 → v < 2 ^ m → 2 ^ m ≤ 2 * v + 1 → length (digits_of 16 v) ≡ 8 - c / 4
by_bits v c zero sum high low = omega (arith, length-digits_of-le 16 0 v (omega arith) (omega (arith, high)), sum)
by_bits v c (suc j) sum high low =
    let d : ℕ = 8 - c / 4 in
    let less : 2 ^ (4 * (d - 1)) ≤ 2 ^ j = pow_mono (omega (arith, sum)) in
    let more : 2 ^ suc j ≤ 2 ^ (4 * d) = pow_mono (omega (arith, sum)) in
    digits_exact d v (omega (arith, sum)) (omega (arith, less, sixteens (d - 1), low, pow-suc 2 j)) (omega (arith, more, sixteens d, high))

pub digits_by_zeros : (v : ℕ) → v < 2 ^ 32 → (count_leading_zeros 32 v ≤ 32) × (length (digits_of 16 v) ≡ 8 - count_leading_zeros 32 v / 4)
digits_by_zeros v small =
    let len = leading_length 32 v small in
    (omega (arith, len.1), by_bits v (count_leading_zeros 32 v) len.0 len.1 len.2 len.3)

-- with one digit less than the power has, and with as many
pub long_before : (d v w : ℕ) → 2 ≤ d → 16 ≤ v → 16 ^ (d - 1) ≤ v → v ≤ w → w < 16 ^ d → 2 * d - 1 ≡ length (long_text w)
long_before d v w some large low more high =
    omega (arith, some, length-long_text w (omega (arith, large, more)), digits_exact d w (omega (arith, some)) (omega (arith, low, more)) high)

pub long_from : (d w : ℕ) → 2 ≤ d → 256 ≤ 16 ^ d → 16 ^ d ≤ w → w < 16 ^ d + 256 → 2 * d + 1 ≡ length (long_text w)
long_from d w some large low high =
    let less : d + 1 - 1 ≡ d = omega arith in
    let next : d + 1 ≡ suc d = omega arith in
    omega (
      arith,
      length-long_text w (omega (arith, large, low)),
      digits_exact (d + 1) w (omega arith) (omega (arith, low, ap (λ (j : ℕ). 16 ^ j) less)) (omega (arith, high, large, ap (λ (j : ℕ). 16 ^ j) next, pow-suc 16 d)),
    )

-- ---- powers

pub less : (d : ℕ) → d + 1 - 1 ≡ d
less d = omega arith

pub next_power : (d : ℕ) → 16 ^ (d + 1) ≡ 16 * 16 ^ d
next_power d = let next : d + 1 ≡ suc d = omega arith in omega (arith, ap (λ (j : ℕ). 16 ^ j) next, pow-suc 16 d)

pub power_above : (d v : ℕ) → d ≤ 8 → v < 2 ^ 30 → 16 ^ d ≤ v → d + 1 ≤ 8
power_above d v few small low = elim (cases_lt d 8) [
  | inl below ↦ omega (arith, below)
  | inr above ↦ (let all : d ≡ 8 = omega (arith, few, above) in absurd (omega (arith, low, small, ap (λ (j : ℕ). 16 ^ j) all)))
]

-- ---- repeat counts

pub repeat_long : (f n : ℕ) → 2 ≤ n → length (number_text f n) + 1 ≡ length (repeat_text f n)
repeat_long f zero some = absurd (omega (arith, some))
repeat_long f (suc zero) some = absurd (omega (arith, some))
repeat_long f (suc (suc n)) some = omega arith
