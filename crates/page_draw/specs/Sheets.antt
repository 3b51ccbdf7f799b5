-- Marks on a sheet: Knuth, DVItype, "Translation to symbolic form" (where a character and a rule
-- stand), and Rokicki, PKtype, "Packing the raster information" (the offsets of a glyph's upper
-- left pixel).
use Rattle.std.specs.Prelude.{◌≤◌, ℤ, pos, ◌+ℤ◌, ◌-ℤ◌, List, [], ◌∷◌, Option, Some, None}
use Rattle.drift_rules.specs.declared.flat.Mark.{Mark}
use Rattle.drift_rules.specs.declared.flat.Mark.TheVariants as mark
use Rattle.pk_runs.specs.declared.glyph.Glyph.{Glyph}
use Rattle.raster_page.specs.Ink.{Inked, Bar, Dots}
use Rattle.page_draw.specs.declared.sheet.Sheet.{Sheet}
use Rattle.raster_page.specs.Limits.{MAX_PAGE_SIDE}

-- a sheet within the limits
pub record IsDrawable (sheet : Sheet) : Type 0 where
  pub some_width : 1 ≤ sheet.width
  pub width : sheet.width ≤ MAX_PAGE_SIDE
  pub some_height : 1 ≤ sheet.height
  pub height : sheet.height ≤ MAX_PAGE_SIDE
  pub left : sheet.left ≤ MAX_PAGE_SIDE
  pub top : sheet.top ≤ MAX_PAGE_SIDE

-- a glyph whose reference pixel stands in column hh of row vv
abbrev pub dots_of : Sheet → Option Glyph → ℤ → ℤ → List Inked
dots_of sheet None hh vv = []
dots_of sheet (Some g) hh vv =
    Dots g.raster (hh -ℤ g.hoff +ℤ pos sheet.left) (vv -ℤ g.voff +ℤ pos sheet.top) ∷ []

-- a mark on the sheet, that of a character with its glyph
abbrev pub inks_of : Sheet → Option Mark → Option Glyph → List Inked
inks_of sheet None glyph = []
inks_of sheet (Some (mark.Rule x y w h)) glyph =
    Bar (x +ℤ pos sheet.left) (y +ℤ pos sheet.top) w h ∷ []
inks_of sheet (Some (mark.Char hh vv)) glyph = dots_of sheet glyph hh vv
