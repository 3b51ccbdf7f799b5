-- The limits of a spool: of no standard, but this project's own choice.
use Rattle.std.specs.Prelude.{ℕ}

-- the most documents
abbrev pub MAX_JOBS : ℕ
MAX_JOBS = 16

-- the most workers
abbrev pub MAX_WORKERS : ℕ
MAX_WORKERS = 32

-- the most pages that the documents of one cache have together
abbrev pub MAX_SHARED_PAGES : ℕ
MAX_SHARED_PAGES = 1000000
