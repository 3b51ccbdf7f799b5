-- The limits of a document: of no standard, but this project's own choice.
use Rattle.std.specs.Prelude.{ℕ}

-- the most bytes that a document may have
abbrev pub MAX_DOCUMENT_LENGTH : ℕ
MAX_DOCUMENT_LENGTH = 67108864

-- the most pages that it may have
abbrev pub MAX_PAGES : ℕ
MAX_PAGES = 1000000
