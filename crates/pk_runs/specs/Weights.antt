-- What the glyphs of a font weigh: the bytes of their rasters, each row in whole bytes.
use Rattle.std.specs.Prelude.{◌≡◌, ℕ, ◌*◌, ◌^◌, ◌≤◌, Option, Some, None}
use Rattle.std.specs.Int.{div_ceil}
use Rattle.code_sums.specs.Sums.{sum_of_codes}
use Rattle.pk_runs.specs.declared.glyph.Glyph.{Glyph}
use Rattle.pk_runs.specs.Glyphs.{Glyphs, glyph_of}

-- the bytes of a code's raster; a code without a glyph has none
abbrev pub raster_bytes : Option Glyph → ℕ
raster_bytes None = 0
raster_bytes (Some g) = g.raster.height * div_ceil g.raster.width 8

-- of the glyphs of all codes, one for each
abbrev pub glyphs_weight : Glyphs → ℕ
glyphs_weight glyphs = sum_of_codes (λ c. raster_bytes (glyph_of glyphs c))

-- the most bytes that one raster takes: 16384 rows of 2048
abbrev pub MAX_GLYPH_BYTES : ℕ
MAX_GLYPH_BYTES = 2 ^ 25

-- the number is what the glyphs weigh, and none weighs more than a raster may
pub record IsWeighed (glyphs : Glyphs) (weight : ℕ) : Type 0 where
  pub total : weight ≡ glyphs_weight glyphs
  pub light : (c : ℕ) → raster_bytes (glyph_of glyphs c) ≤ MAX_GLYPH_BYTES
