-- The nearest whole number of a fraction, by one division.
use Rattle.std.proofs.Common.{ℕ, ◌+◌, ◌*◌, ◌/◌, ◌<◌, ◌≤◌, arith, subst}
use Rattle.std.proofs.Math.Nat.{div-eq_of_lt-le, div-mul-le_self, lt-div-mul-add}
use Rattle.fix_word.specs.Scale.{HalfUpIsNearest, IsNearest, half_up}

-- a quotient is near
near : (top bottom : ℕ) → 0 < bottom → IsNearest top bottom (half_up top bottom)
near top bottom some =
    let positive : 0 < 2 * bottom = omega arith in
    let least : (2 * top + bottom) / (2 * bottom) * (2 * bottom) ≤ 2 * top + bottom = div-mul-le_self (2 * top + bottom) (2 * bottom) in
    let most : 2 * top + bottom < (2 * top + bottom) / (2 * bottom) * (2 * bottom) + 2 * bottom = lt-div-mul-add positive in
    regrouped top bottom ((2 * top + bottom) / (2 * bottom)) least most
  where
    regrouped : (top bottom n : ℕ) → n * (2 * bottom) ≤ 2 * top + bottom → 2 * top + bottom < n * (2 * bottom) + 2 * bottom → IsNearest top bottom n
    regrouped top bottom n least most = (omega (arith, least), omega (arith, most))

-- and no other number is
pub half_up_is_nearest : HalfUpIsNearest
half_up_is_nearest top bottom n some = (
  λ e. subst (λ n. IsNearest top bottom n) e (near top bottom some),
  λ h. div-eq_of_lt-le (2 * bottom) (above top bottom n h.0) (below top bottom n h.1),
)
  where
    above : (top bottom n : ℕ) → 2 * n * bottom ≤ 2 * top + bottom → n * (2 * bottom) ≤ 2 * top + bottom
    above top bottom n h = omega (arith, h)

    below : (top bottom n : ℕ) → 2 * top + bottom < 2 * n * bottom + 2 * bottom → 2 * top + bottom < (n + 1) * (2 * bottom)
    below top bottom n h = omega (arith, h)
