-- The limit of a font's size: TeX's.
use Rattle.std.specs.Prelude.{ℕ}

-- a size and a design size are below this number of DVI units, 2^27
abbrev pub SIZES : ℕ
SIZES = 134217728
