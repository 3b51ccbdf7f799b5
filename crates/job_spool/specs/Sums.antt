-- Sums over the first numbers.
use Rattle.std.specs.Prelude.{ℕ, zero, suc, ◌+◌}

-- f 0 + f 1 + .. + f (n - 1)
abbrev pub sum_below : (f : ℕ → ℕ) (n : ℕ) → ℕ
sum_below f zero = 0
sum_below f (suc n) = sum_below f n + f n
