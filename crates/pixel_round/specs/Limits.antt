-- The limit of a resolution: of no standard, but this project's own choice.
use Rattle.std.specs.Prelude.{ℕ}

-- the most dots to the inch
abbrev pub MAX_RESOLUTION : ℕ
MAX_RESOLUTION = 4800
