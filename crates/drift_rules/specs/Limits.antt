-- The limit of a pen's stack: of no standard, but this project's own choice.
use Rattle.std.specs.Prelude.{ℕ}

-- the most sets of registers that may be saved
abbrev pub MAX_SAVED : ℕ
MAX_SAVED = 1000
