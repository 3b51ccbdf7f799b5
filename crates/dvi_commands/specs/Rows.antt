-- What the computed rows name.
use Rattle.std.specs.Prelude.{ℕ, zero, suc, List, [], ◌∷◌, ◌++◌}

-- 0, 1, .. below a number
abbrev pub numbers_below : ℕ → List ℕ
numbers_below zero = []
numbers_below (suc n) = numbers_below n ++ n ∷ []

-- the numbers that a byte may be
abbrev pub opcodes : List ℕ
opcodes = numbers_below 256
