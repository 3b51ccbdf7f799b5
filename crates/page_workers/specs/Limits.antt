-- The limit of workers: of no standard, but this project's own choice.
use Rattle.std.specs.Prelude.{ℕ}

-- the most workers of a run
abbrev pub MAX_WORKERS : ℕ
MAX_WORKERS = 32
