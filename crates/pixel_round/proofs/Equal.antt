-- Fractions of one value: they convert alike, and lowest terms keep the value.
use Rattle.std.proofs.Common.{◌≡◌, ◌∙◌, ℕ, zero, suc, ◌+◌, ◌*◌, ◌/◌, ◌<◌, ◌≤◌, pos, negsuc, neg_ℤ, sym, ap, arith, inl, inr}
use Rattle.std.specs.Int.{IsGcd, div_ceil}
use Rattle.std.proofs.lemmas.Grind.{div_ceil_times}
use Rattle.std.proofs.Math.Nat.{div-mul-le_self, div-mul_cancel, le-div_iff_mul-le, mul-le-mul_left}
use Rattle.std.proofs.lemmas.Bool.{cases_lt}
use Rattle.pixel_round.specs.Pixels.{AreEqual, EqualFractionsConvertAlike, Fraction, nearest}
use Rattle.pixel_round.proofs.Conversion.{ceil_least}

-- a factor above 0 is left out
cancelled : (k a b : ℕ) → 0 < k → a * k ≤ b * k → a ≤ b
cancelled k a b some le = elim (cases_lt b a) [
  | inl lt ↦
      let more : b + 1 ≤ a = omega arith in
      absurd (omega (arith, mul-le-mul_left k more, le, some))
  | inr ge ↦ ge
]

swapped : (a b k : ℕ) → a * b * k ≡ a * k * b
swapped a b k = omega arith

both_le : (a b c d : ℕ) → a ≡ b → b ≤ c → c ≡ d → a ≤ d
both_le a b c d e le f = omega arith

-- a quotient of one value is no greater
quotient_le : (a b c d : ℕ) → 0 < b → 0 < d → a * d ≡ c * b → a / b ≤ c / d
quotient_le a b c d some other e =
    let below : a / b * b ≤ a = div-mul-le_self a b in
    let times : a / b * b * d ≤ a * d = omega (arith, mul-le-mul_left d below) in
    (le-div_iff_mul-le other).1 (cancelled b (a / b * d) c some (both_le _ _ _ _ (swapped (a / b) d b) times e))

pub same_quotient : (a b c d : ℕ) → 0 < b → 0 < d → a * d ≡ c * b → a / b ≡ c / d
same_quotient a b c d some other e =
    let up : a / b ≤ c / d = quotient_le a b c d some other e in
    let down : c / d ≤ a / b = quotient_le c d a b other some (sym e) in
    omega (arith, up, down)

ceil_le : (a b c d : ℕ) → 0 < b → 0 < d → a * d ≡ c * b → div_ceil a b ≤ div_ceil c d
ceil_le a b c d some other e =
    let reach : c ≤ div_ceil c d * d = (div_ceil_times c d other).0 in
    let times : c * b ≤ div_ceil c d * d * b = omega (arith, mul-le-mul_left b reach) in
    ceil_least a b (div_ceil c d) some (cancelled d a (div_ceil c d * b) other (both_le _ _ _ _ e times (swapped (div_ceil c d) d b)))

same_ceil : (a b c d : ℕ) → 0 < b → 0 < d → a * d ≡ c * b → div_ceil a b ≡ div_ceil c d
same_ceil a b c d some other e =
    let up : div_ceil a b ≤ div_ceil c d = ceil_le a b c d some other e in
    let down : div_ceil c d ≤ div_ceil a b = ceil_le c d a b other some (sym e) in
    omega (arith, up, down)

scaled : (m a b c d : ℕ) → a * d ≡ c * b → m * a * d ≡ m * c * b
scaled m a b c d e =
    let left : m * a * d ≡ m * (a * d) = omega arith in
    let right : m * (c * b) ≡ m * c * b = omega arith in
    left ∙ ap (λ n. m * n) e ∙ right

doubled : (t b u d : ℕ) → t * d ≡ u * b → (2 * t + b) * (2 * d) ≡ (2 * u + d) * (2 * b)
doubled t b u d e = omega (arith, e)

nearest_alike : (a b : Fraction) (m : ℕ) → AreEqual a b → nearest a m ≡ nearest b m
nearest_alike a b m same =
    let some : 0 < 2 * a.bottom = omega (arith, same.first) in
    let other : 0 < 2 * b.bottom = omega (arith, same.second) in
    same_quotient (2 * (m * a.top) + a.bottom) (2 * a.bottom) (2 * (m * b.top) + b.bottom) (2 * b.bottom) some other
    (doubled (m * a.top) a.bottom (m * b.top) b.bottom (scaled m a.top a.bottom b.top b.bottom same.value))

pub equal_fractions_convert_alike : EqualFractionsConvertAlike
equal_fractions_convert_alike a b (pos m) same = (
  ap pos (nearest_alike a b m same),
  ap pos (same_ceil (m * a.top) a.bottom (m * b.top) b.bottom same.first same.second (scaled m a.top a.bottom b.top b.bottom same.value)),
)
equal_fractions_convert_alike a b (negsuc m) same = (
  ap (λ n. neg_ℤ (pos n)) (nearest_alike a b (suc m) same),
  ap (λ n. neg_ℤ (pos n)) (same_quotient (suc m * a.top) a.bottom (suc m * b.top) b.bottom same.first same.second (scaled (suc m) a.top a.bottom b.top b.bottom same.value)),
)

-- ---- lowest terms

crossed : (t b g : ℕ) → t * (b * g) ≡ t * g * b
crossed t b g = omega arith

quotient_above : (top g t : ℕ) → 0 < top → t * g ≡ top → 0 < t
quotient_above top g zero some e = absurd (omega (arith, some, e))
quotient_above top g (suc t) some e = omega arith

quotient_within : (top bottom g t b : ℕ) → 0 < g → t * g ≡ top → b * g ≡ bottom → top ≤ 512 * bottom → t ≤ 512 * b
quotient_within top bottom g t b some e f le =
    let moved : 512 * b * g ≡ 512 * (b * g) = omega arith in
    cancelled g t (512 * b) some (both_le _ _ _ _ e le (ap (λ n. 512 * n) (sym f) ∙ sym moved))

-- what is known of a fraction whose two numbers were divided by one that divides both
pub record IsLowered (top bottom t b : ℕ) : Type 0 where
  pub above : 0 < t
  pub below : 0 < b
  pub bounded : t ≤ 512 * b
  pub small : b ≤ bottom
  pub same : t * bottom ≡ top * b

pub lowered : (top bottom g r : ℕ) → 0 < top → 0 < bottom → top ≤ 512 * bottom → 0 < g → IsGcd top bottom g → r ≡ g → IsLowered top bottom (top / r) (bottom / g)
lowered top bottom g r some other le positive is e =
    let up : top / r * g ≡ top = ap (λ n. top / n * g) e ∙ div-mul_cancel g is.0 in
    let down : bottom / g * g ≡ bottom = div-mul_cancel g is.1 in
    record {
      above = quotient_above top g (top / r) some up;
      below = quotient_above bottom g (bottom / g) other down;
      bounded = quotient_within top bottom g (top / r) (bottom / g) positive up down le;
      small = omega arith;
      same = ap (λ n. top / r * n) (sym down) ∙ crossed (top / r) (bottom / g) g ∙ ap (λ n. n * (bottom / g)) up;
    }
