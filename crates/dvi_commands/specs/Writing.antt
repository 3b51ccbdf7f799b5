-- What can be written: a text that the field for its length holds. Knuth, DVItype,
-- "Device-independent file format".
use Rattle.std.specs.Prelude.{ℕ, ◌-◌, ◌^◌, ◌≤◌, List, length, flat_map}
use Rattle.std.specs.Borrow.{Bor}
use Rattle.dvi_commands.specs.Spelling.{DviCommand, Define, Pre, Special}

-- the most bytes that a special may have
abbrev pub MAX_SPECIAL_LENGTH : ℕ
MAX_SPECIAL_LENGTH = 2 ^ 31 - 1

-- the length of a special is a signed number of four bytes at most
abbrev pub IsSpecialShort : DviCommand → Type 0
IsSpecialShort (Special text) = length text ≤ MAX_SPECIAL_LENGTH
IsSpecialShort _ = Unit {0}

-- the length of a preamble's text is one byte
abbrev pub IsTextShort : DviCommand → Type 0
IsTextShort (Pre p) = length p.text ≤ 255
IsTextShort _ = Unit {0}

-- the area of a font stands before its name
abbrev pub IsAreaInName : DviCommand → Type 0
IsAreaInName (Define d) = d.area ≤ length d.name
IsAreaInName _ = Unit {0}

-- the length of the rest of the name is one byte, as that of the area
abbrev pub IsRestShort : DviCommand → Type 0
IsRestShort (Define d) = length d.name - d.area ≤ 255
IsRestShort _ = Unit {0}

-- texts, one after another
abbrev pub joined : List (Bor (List ℕ)) → List ℕ
joined parts = flat_map (λ part. part.now) parts
