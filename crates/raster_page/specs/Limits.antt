-- The limits of a page: of no standard, but this project's own choice.
use Rattle.std.specs.Prelude.{ℕ}

-- the greatest width and height of a page, in dots
abbrev pub MAX_PAGE_SIDE : ℕ
MAX_PAGE_SIDE = 20000
