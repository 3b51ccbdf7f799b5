-- The limits of a page's expansion: of no standard, but this project's own choice.
use Rattle.std.specs.Prelude.{ℕ}

-- the most packets that may stand inside one another
abbrev pub MAX_DEPTH : ℕ
MAX_DEPTH = 10

-- the most flat commands that a page may have
abbrev pub MAX_FLAT_COMMANDS : ℕ
MAX_FLAT_COMMANDS = 16777216
