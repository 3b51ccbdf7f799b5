-- The conversions meet their relations.
use Rattle.std.proofs.Common.{◌≡◌, ℕ, zero, suc, ◌+◌, ◌*◌, ◌/◌, ◌<◌, ◌≤◌, ℤ, pos, negsuc, ◌-ℤ◌, ◌*ℤ◌, neg_ℤ, ◌≤ℤ◌, ◌<ℤ◌, refl, arith, inl, inr}
use Rattle.std.specs.Prelude.{unsigned_abs}
use Rattle.std.specs.Int.{div_ceil}
use Rattle.std.proofs.lemmas.Int.{ints}
use Rattle.std.proofs.lemmas.Bool.{cases_lt}
use Rattle.std.proofs.lemmas.Grind.{div_ceil_times}
use Rattle.std.proofs.Math.Nat.{mul-le-mul_left, le-div_iff_mul-le, div-lt_iff_lt-mul, div-mul-le_self}
use Rattle.pixel_round.specs.Pixels.{Fraction, IsRound, IsCeil, nearest, RoundIsNearest, CeilIsLeast, ConvertedAreBounded, SidesHaveDots}

quotient : (a b : ℕ) → 0 < b → (b * (a / b) ≤ a) × (a < b * (a / b) + b)
quotient a b h = grind arith

-- k is a to the nearest multiple of b, seen from below and from above
near_by : (a b k : ℕ) → 2 * k ≤ 2 * a + b → 2 * a + b < 2 * k + 2 * b → 2 * unsigned_abs (pos k -ℤ pos a) ≤ b
near_by a b k low high = grind (arith, ints)

away_by : (a b k : ℕ) → 2 * a + b < 2 * k + 2 * b → 2 * unsigned_abs (pos k -ℤ pos a) ≡ b → a ≤ k
away_by a b k high e = grind (arith, ints)

-- a product with a number below zero
pub neg-mul : (k b : ℕ) → neg_ℤ (pos k) *ℤ pos b ≡ neg_ℤ (pos (k * b))
neg-mul zero b = grind (arith, ints)
neg-mul (suc k) b = grind (arith, ints)

abs-neg : (k : ℕ) → unsigned_abs (neg_ℤ (pos k)) ≡ k
abs-neg zero = refl
abs-neg (suc k) = refl

mirrored : (k a : ℕ) → unsigned_abs (neg_ℤ (pos k) -ℤ neg_ℤ (pos a)) ≡ unsigned_abs (pos k -ℤ pos a)
mirrored k a = grind (arith, ints)

round_pos : (c : Fraction) (m : ℕ) → 0 < c.bottom → IsRound c (pos m) (pos (nearest c m))
round_pos c m h =
    let q = quotient (2 * (m * c.top) + c.bottom) (2 * c.bottom) (omega arith) in
    record {
      near = near_by (m * c.top) c.bottom (nearest c m * c.bottom) (omega (arith, q.0)) (omega (arith, q.1));
      away = λ e. away_by (m * c.top) c.bottom (nearest c m * c.bottom) (omega (arith, q.1)) e;
    }

round_neg : (c : Fraction) (m : ℕ) → 0 < c.bottom → IsRound c (neg_ℤ (pos m)) (neg_ℤ (pos (nearest c m)))
round_neg c m h =
    let r = round_pos c m h in
    record {
      near = rw (neg-mul (nearest c m) c.bottom, neg-mul m c.top, mirrored (nearest c m * c.bottom) (m * c.top)) r.near;
      away = rw (neg-mul (nearest c m) c.bottom, neg-mul m c.top, mirrored (nearest c m * c.bottom) (m * c.top), abs-neg m, abs-neg (nearest c m)) r.away;
    }

pub round_is_nearest : RoundIsNearest
round_is_nearest c (pos m) h = round_pos c m h
round_is_nearest c (negsuc m) h = round_neg c (suc m) h

pub ceil_least : (a b j : ℕ) → 0 < b → a ≤ j * b → div_ceil a b ≤ j
ceil_least a b j h reach =
    let bounds = div_ceil_times a b h in
    elim (cases_lt j (div_ceil a b)) [
      | inl lt ↦ let more : j + 1 ≤ div_ceil a b = omega (arith, lt) in absurd (omega (arith, bounds.1, reach, mul-le-mul_left b more))
      | inr le ↦ le
    ]

ceil_pos_above : (a b n : ℕ) → a ≤ n * b → pos a ≤ℤ pos (n * b)
ceil_pos_above a b n h = grind (arith, ints)

ceil_pos_least : (a b : ℕ) (k : ℤ) → 0 < b → pos a ≤ℤ (k *ℤ pos b) → pos (div_ceil a b) ≤ℤ k
ceil_pos_least a b (pos j) h le =
    let reach : a ≤ j * b = grind (arith, ints) in
    let least = ceil_least a b j h reach in
    grind (arith, ints)
ceil_pos_least a b (negsuc j) h le =
    let low : pos a ≤ℤ neg_ℤ (pos (suc j * b)) = rw (neg-mul (suc j) b) at le in
    let one : 1 ≤ suc j = omega arith in
    let some : 0 < suc j * b = omega (arith, mul-le-mul_left b one) in
    absurd (grind (arith, ints))

ceil_neg_above : (a b q : ℕ) → q * b ≤ a → neg_ℤ (pos a) ≤ℤ neg_ℤ (pos (q * b))
ceil_neg_above a b q h = grind (arith, ints)

ceil_neg_least : (a b : ℕ) (k : ℤ) → 0 < b → neg_ℤ (pos a) ≤ℤ (k *ℤ pos b) → neg_ℤ (pos (a / b)) ≤ℤ k
ceil_neg_least a b (pos j) h le = grind (arith, ints)
ceil_neg_least a b (negsuc j) h le =
    let low : neg_ℤ (pos a) ≤ℤ neg_ℤ (pos (suc j * b)) = rw (neg-mul (suc j) b) at le in
    let fits : suc j * b ≤ a = grind (arith, ints) in
    let below : suc j ≤ a / b = (le-div_iff_mul-le h).1 fits in
    grind (arith, ints)

ceil_neg : (c : Fraction) (m : ℕ) → 0 < c.bottom → IsCeil c (neg_ℤ (pos m)) (neg_ℤ (pos (m * c.top / c.bottom)))
ceil_neg c m h = record {
  above = rw (neg-mul m c.top, neg-mul (m * c.top / c.bottom) c.bottom) (ceil_neg_above (m * c.top) c.bottom (m * c.top / c.bottom) (div-mul-le_self (m * c.top) c.bottom));
  least = rw (neg-mul m c.top) (λ k le. ceil_neg_least (m * c.top) c.bottom k h le);
}

pub ceil_is_least : CeilIsLeast
ceil_is_least c (pos m) h = record {
  above = ceil_pos_above (m * c.top) c.bottom (div_ceil (m * c.top) c.bottom) (div_ceil_times (m * c.top) c.bottom h).0;
  least = λ k le. ceil_pos_least (m * c.top) c.bottom k h le;
}
ceil_is_least c (negsuc m) h = ceil_neg c (suc m) h

-- ---- how large a converted number is, where a unit is at most 512 dots

widened : (a b m : ℕ) → a ≤ 512 * b → m * a ≤ 512 * m * b
widened a b m h = omega (arith, mul-le-mul_left m h)

pub nearest_at_most : (a b m : ℕ) → 0 < b → a ≤ 512 * b → (2 * (m * a) + b) / (2 * b) ≤ 512 * m + 1
nearest_at_most a b m h le =
    let two : 0 < 2 * b = omega arith in
    let below : (2 * (m * a) + b) / (2 * b) < 512 * m + 2 = (div-lt_iff_lt-mul two).1 (omega (arith, widened a b m le, h)) in
    omega (arith, below)

pub least_at_most : (a b m : ℕ) → 0 < b → a ≤ 512 * b → div_ceil (m * a) b ≤ 512 * m
least_at_most a b m h le = ceil_least (m * a) b (512 * m) h (widened a b m le)

pub floor_at_most : (a b m : ℕ) → 0 < b → a ≤ 512 * b → m * a / b ≤ 512 * m
floor_at_most a b m h le =
    let below : m * a / b < 512 * m + 1 = (div-lt_iff_lt-mul h).1 (omega (arith, widened a b m le, h)) in
    omega (arith, below)

-- a side above 0 has a dot
pub least_has_a_dot : (a b m : ℕ) → 0 < a → 0 < b → 0 < m → 0 < div_ceil (m * a) b
least_has_a_dot a b m some h size =
    let reach = (div_ceil_times (m * a) b h).0 in
    let product : 0 < m * a = omega (arith, mul-le-mul_left a size) in
    elim (cases_lt 0 (div_ceil (m * a) b)) [
      | inl lt ↦ lt
      | inr le ↦ let none : div_ceil (m * a) b ≡ 0 = omega (arith, le) in absurd (omega (arith, product, rw none at reach))
    ]

dot_pos : (n : ℕ) → 0 < n → pos 0 <ℤ pos n
dot_pos n h = grind (arith, ints)

pub sides_have_dots : SidesHaveDots
sides_have_dots c (pos m) usable above = dot_pos _ (least_has_a_dot c.top c.bottom m usable.top usable.bottom (grind (arith, ints)))
sides_have_dots c (negsuc m) usable above = absurd (grind (arith, ints))

pub converted_are_bounded : ConvertedAreBounded
converted_are_bounded c (pos m) some h =
    (nearest_at_most c.top c.bottom m some h, omega (arith, least_at_most c.top c.bottom m some h))
converted_are_bounded c (negsuc m) some h = (
  rw abs-neg (nearest_at_most c.top c.bottom (suc m) some h),
  rw abs-neg (omega (arith, floor_at_most c.top c.bottom (suc m) some h)),
)
