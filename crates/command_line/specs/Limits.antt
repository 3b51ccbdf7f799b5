-- The limits of what a command line asks for: of no standard, but this project's own choice.
use Rattle.std.specs.Prelude.{ℕ}

-- the most workers of a run
abbrev pub MAX_WORKERS : ℕ
MAX_WORKERS = 32

-- the most fonts that a cache may keep
abbrev pub MAX_CACHED_FONTS : ℕ
MAX_CACHED_FONTS = 256

-- the most bytes that the fonts in a cache may weigh together: 256 of the greatest weight
abbrev pub MAX_ROOM : ℕ
MAX_ROOM = 2147483648
