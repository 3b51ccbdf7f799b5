-- What a font weighs in the font cache: the bytes of its rasters, each row in whole bytes, or of
-- its packets, those of each code once. It is found from what a font answers for each code.
use Rattle.std.specs.Prelude.{◌≡◌, ℕ, ◌+◌}
use Rattle.code_sums.specs.Sums.{sum_of_codes}
use Rattle.pk_runs.specs.Weights.{raster_bytes}
use Rattle.vf_reader.specs.Weights.{packet_bytes}
use Rattle.font_decode.specs.Fonts.{FontValue, IsFontValue, glyph_in, packet_in}
use Rattle.font_decode.specs.declared.shapes.Shapes.{Shapes}

-- a packed font has no packets, a virtual font no glyphs, and a bare font neither
abbrev pub shapes_weight : Shapes → ℕ
shapes_weight shapes =
    sum_of_codes (λ c. raster_bytes (glyph_in shapes c) + packet_bytes (packet_in shapes c))

abbrev pub font_weight : FontValue → ℕ
font_weight f = shapes_weight f.shapes

-- a font whose weight is kept beside it
pub record IsWeighedFont (f : FontValue) (weight : ℕ) : Type 0 where
  pub value : IsFontValue f
  pub kept : weight ≡ font_weight f
