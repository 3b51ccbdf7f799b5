-- Sums over the codes of a font's characters.
use Rattle.std.specs.Prelude.{ℕ, ◌-◌, ◌^◌}
use Rattle.std.specs.Int.{sum_through}

-- how many codes there are: they have four bytes at most
abbrev pub CODES : ℕ
CODES = 2 ^ 32

unfoldable pub last_code : ℕ
last_code = CODES - 1

-- f 0 + f 1 + .. + f (CODES - 1)
unfoldable pub sum_of_codes : (ℕ → ℕ) → ℕ
sum_of_codes f = sum_through f last_code
