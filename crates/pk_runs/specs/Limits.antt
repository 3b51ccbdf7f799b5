-- The limits of a font's rasters: of no standard, but this project's own choice.
use Rattle.std.specs.Prelude.{ℕ}

-- the greatest width and height of a raster, in pixels
abbrev pub MAX_GLYPH_SIDE : ℕ
MAX_GLYPH_SIDE = 16384

-- the most bytes that the rasters of a font may take, each row in whole bytes, those among them
-- that later ones replace
abbrev pub MAX_RASTER_BYTES : ℕ
MAX_RASTER_BYTES = 8388608
