-- Run lengths and repeat counts have no greatest.
use Rattle.std.proofs.Common.{◌≡◌, ℕ, zero, suc, ◌+◌, ◌-◌, ◌*◌, ◌^◌, ◌<◌, inr, List, ◌∷◌, length, replicate, refl, ap, arith}
use Rattle.std.proofs.lemmas.List.{length-replicate}
use Rattle.std.proofs.Math.Nat.{pow-suc}
use Rattle.pk_runs.specs.Numbers.{hex_of, NumbersHaveNoGreatest}

abbrev zeros : ℕ → List ℕ
zeros k = replicate k 0

zeros_long : (k : ℕ) → length (zeros k) ≡ k
zeros_long k = length-replicate k 0

pow_above : (n : ℕ) → n < 16 ^ n
pow_above zero = omega arith
pow_above (suc n) = omega (arith, pow-suc 16 n, pow_above n)

hex_above : (k : ℕ) → k < hex_of (1 ∷ zeros k)
hex_above k =
    let power : 16 ^ length (zeros k) ≡ 16 ^ k = ap (λ n. 16 ^ n) (zeros_long k) in
    omega (arith, power, pow_above k)

pub numbers_have_no_greatest : NumbersHaveNoGreatest
numbers_have_no_greatest d n small = (
  n + 16,
  hex_of (1 ∷ zeros (n + 16)) - 15 + (13 - d) * 16 + d,
  omega (arith, hex_above (n + 16)),
  inr (inr (n + 16, 1, zeros (n + 16), omega arith, omega arith, zeros_long (n + 16), refl, omega (arith, hex_above (n + 16)))),
)
