-- The glyphs of a font by their codes.
use Rattle.std.specs.Prelude.{ℕ, List, nat_lt, ◌==◌, if◌then◌else◌, Option, None, get_or}
use Rattle.std.specs.Map.{lookup}
use Rattle.pk_runs.specs.declared.glyph.Glyph.{Glyph}

-- the glyphs of the codes from 0 to 255 by their places, and those of others by their codes
pub record Glyphs : Type 0 where
  pub by_place : List (Option Glyph)
  pub others : List (ℕ × Glyph)

-- the glyph of a code
abbrev pub glyph_of : Glyphs → ℕ → Option Glyph
glyph_of glyphs c =
    if nat_lt c 256 then get_or glyphs.by_place c None else lookup (λ k. c == k) glyphs.others
