-- The limit of a cache: of no standard, but this project's own choice.
use Rattle.std.specs.Prelude.{ℕ}

-- the most fonts that a cache may keep
abbrev pub MAX_CACHED_FONTS : ℕ
MAX_CACHED_FONTS = 256
