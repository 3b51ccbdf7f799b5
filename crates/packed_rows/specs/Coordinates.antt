-- How far from a bitmap's upper left pixel a raster or a rule may be placed.
use Rattle.std.specs.Prelude.{ℤ, ◌≤◌, unsigned_abs}
use Rattle.packed_rows.specs.declared.offset.TheConstants.{MAX_COORDINATE}

-- a column, a row or a side, in pixels, the bounds among them
abbrev pub IsCoordinate : ℤ → Type 0
IsCoordinate z = unsigned_abs z ≤ MAX_COORDINATE
