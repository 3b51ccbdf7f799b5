-- The limit of a font's files: of no standard, but this project's own choice.
use Rattle.std.specs.Prelude.{ℕ}

-- the most bytes that a file may have
abbrev pub MAX_FILE_LENGTH : ℕ
MAX_FILE_LENGTH = 8388608
