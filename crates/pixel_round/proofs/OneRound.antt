-- Of the numbers that are x converted to the nearest, halves away from 0, there is one.
use Rattle.std.proofs.Common.{◌≡◌, ℕ, suc, ◌+◌, ◌*◌, ◌<◌, ◌≤◌, ℤ, pos, negsuc, ◌-ℤ◌, ◌*ℤ◌, neg_ℤ, ap, ◌∙◌, arith, inl, inr}
use Rattle.std.specs.Prelude.{unsigned_abs}
use Rattle.std.proofs.lemmas.Int.{ints, unsigned_abs-mul}
use Rattle.std.proofs.lemmas.Bool.{cases_order}
use Rattle.std.proofs.Math.Nat.{mul-le-mul_left}
use Rattle.pixel_round.specs.Pixels.{Fraction, IsRound, OnlyOneIsRound}
use Rattle.pixel_round.proofs.Conversion.{neg-mul}

abbrev apart : ℤ → ℤ → ℕ
apart a y = 2 * unsigned_abs (a -ℤ y)

-- two multiples of b, at least b apart, and a number y that is at most half of b from both
both_up : (y : ℤ) (k l b : ℕ) → 0 < b → k + b ≤ l → apart (pos k) y ≤ b → apart (pos l) y ≤ b → (apart (pos k) y ≡ b → unsigned_abs y ≤ k) → ⊥
both_up y k l b some gap p q away =
    let equal : apart (pos k) y ≡ b = grind (arith, ints) in
    let low : unsigned_abs y ≤ k = away equal in
    grind (arith, ints)

both_down : (y : ℤ) (k l b : ℕ) → 0 < b → l + b ≤ k → apart (neg_ℤ (pos k)) y ≤ b → apart (neg_ℤ (pos l)) y ≤ b → (apart (neg_ℤ (pos l)) y ≡ b → unsigned_abs y ≤ l) → ⊥
both_down y k l b some gap p q away =
    let equal : apart (neg_ℤ (pos l)) y ≡ b = grind (arith, ints) in
    let low : unsigned_abs y ≤ l = away equal in
    grind (arith, ints)

across : (y : ℤ) (k l b : ℕ) → 0 < b → b ≤ k → apart (neg_ℤ (pos k)) y ≤ b → apart (pos l) y ≤ b → (apart (pos l) y ≡ b → unsigned_abs y ≤ l) → ⊥
across y k l b some gap p q away =
    let equal : apart (pos l) y ≡ b = grind (arith, ints) in
    let low : unsigned_abs y ≤ l = away equal in
    grind (arith, ints)

-- ---- what is known of a nearest number, by its sign

abbrev scaled : Fraction → ℤ → ℤ
scaled c x = x *ℤ pos c.top

abbrev Near : Fraction → ℤ → ℤ → ℕ → Type 0
Near c x a k = (apart a (scaled c x) ≤ c.bottom) × (apart a (scaled c x) ≡ c.bottom → unsigned_abs (scaled c x) ≤ k)

from_pos : (c : Fraction) (x : ℤ) (i : ℕ) → IsRound c x (pos i) → Near c x (pos (i * c.bottom)) (i * c.bottom)
from_pos c x i h = (h.near, λ e. rw (unsigned_abs-mul x (pos c.top)) (h.away e))

from_neg : (c : Fraction) (x : ℤ) (i : ℕ) → IsRound c x (negsuc i) → Near c x (neg_ℤ (pos (suc i * c.bottom))) (suc i * c.bottom)
from_neg c x i h =
    let same : negsuc i *ℤ pos c.bottom ≡ neg_ℤ (pos (suc i * c.bottom)) = neg-mul (suc i) c.bottom in
    (rw (← same) h.near, λ e. rw (unsigned_abs-mul x (pos c.top)) (h.away (ap (λ (a : ℤ). apart a (scaled c x)) same ∙ e)))

-- a larger number, a multiple farther
farther : (i j b : ℕ) → i < j → i * b + b ≤ j * b
farther i j b lt =
    let more : i + 1 ≤ j = omega arith in
    omega (arith, mul-le-mul_left b more)

at_least : (i b : ℕ) → b ≤ suc i * b
at_least i b =
    let one : 1 ≤ suc i = omega arith in
    omega (arith, mul-le-mul_left b one)

below_up : (c : Fraction) (x : ℤ) (i j : ℕ) → 0 < c.bottom → IsRound c x (pos i) → IsRound c x (pos j) → i < j → ⊥
below_up c x i j some h g lt =
    let p = from_pos c x i h in
    let q = from_pos c x j g in
    both_up (scaled c x) (i * c.bottom) (j * c.bottom) c.bottom some (farther i j c.bottom lt) p.0 q.0 p.1

below_down : (c : Fraction) (x : ℤ) (i j : ℕ) → 0 < c.bottom → IsRound c x (negsuc i) → IsRound c x (negsuc j) → j < i → ⊥
below_down c x i j some h g lt =
    let p = from_neg c x i h in
    let q = from_neg c x j g in
    let lt' : suc j < suc i = omega (arith, lt) in
    both_down (scaled c x) (suc i * c.bottom) (suc j * c.bottom) c.bottom some (farther (suc j) (suc i) c.bottom lt') p.0 q.0 q.1

below_across : (c : Fraction) (x : ℤ) (i j : ℕ) → 0 < c.bottom → IsRound c x (negsuc i) → IsRound c x (pos j) → ⊥
below_across c x i j some h g =
    let p = from_neg c x i h in
    let q = from_pos c x j g in
    across (scaled c x) (suc i * c.bottom) (j * c.bottom) c.bottom some (at_least i c.bottom) p.0 q.0 q.1

pub only_one_is_round : OnlyOneIsRound
only_one_is_round c x (pos i) (pos j) some h g =
    elim (cases_order i j) [
      | inl e ↦ ap pos e
      | inr (inl lt) ↦ absurd (below_up c x i j some h g lt)
      | inr (inr lt) ↦ absurd (below_up c x j i some g h lt)
    ]
only_one_is_round c x (negsuc i) (negsuc j) some h g =
    elim (cases_order i j) [
      | inl e ↦ ap negsuc e
      | inr (inl lt) ↦ absurd (below_down c x j i some g h lt)
      | inr (inr lt) ↦ absurd (below_down c x i j some h g lt)
    ]
only_one_is_round c x (negsuc i) (pos j) some h g = absurd (below_across c x i j some h g)
only_one_is_round c x (pos i) (negsuc j) some h g = absurd (below_across c x j i some g h)
