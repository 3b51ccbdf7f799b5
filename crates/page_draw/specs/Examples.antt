-- What the worked marks name: a glyph of three pixels by two, and a sheet with margins.
use Rattle.std.specs.Prelude.{ℤ, pos, negsuc, Bool, true, false, List, [], ◌∷◌, Option}
use Rattle.packed_rows.specs.Bitmap.{Bitmap}
use Rattle.pk_runs.specs.declared.glyph.Glyph.{Glyph}
use Rattle.drift_rules.specs.declared.flat.Mark.{Mark}
use Rattle.drift_rules.specs.declared.flat.Registers.{Registers}
use Rattle.drift_rules.specs.Position.{zeros}
use Rattle.raster_page.specs.Ink.{page_of}
use Rattle.page_draw.specs.Sheets.{inks_of}
use Rattle.page_draw.specs.declared.sheet.Sheet.{Sheet}

-- three rows of two pixels: a stem, and a foot to its right
abbrev pub stem : Bitmap
stem = record {
  width = 2;
  height = 3;
  rows = (true ∷ false ∷ []) ∷ (true ∷ false ∷ []) ∷ (true ∷ true ∷ []) ∷ [];
}

-- its reference pixel lies in its last row, one column to the left of it
abbrev pub letter : Glyph
letter = record { raster = stem; hoff = negsuc 0; voff = pos 2 }

-- eight columns and six rows, two columns of which are the left margin, and one row the top margin
abbrev pub sheet : Sheet
sheet = record { width = 8; height = 6; left = 2; top = 1; tolerant = false }

-- in column hh of row vv
abbrev pub standing : ℤ → ℤ → Registers
standing hh vv = record zeros { hh = hh; vv = vv }

-- a page of the sheet with these rows
abbrev pub page : List (List Bool) → Bitmap
page rows = record { width = 8; height = 6; rows = rows }

-- one with a mark alone
abbrev pub page_with : Option Mark → Option Glyph → Bitmap
page_with mark glyph = page_of 8 6 (inks_of sheet mark glyph)

-- rows of eight dots, numbered from 0
abbrev pub white : List Bool
white = false ∷ false ∷ false ∷ false ∷ false ∷ false ∷ false ∷ false ∷ []

abbrev pub dot_0 : List Bool
dot_0 = true ∷ false ∷ false ∷ false ∷ false ∷ false ∷ false ∷ false ∷ []

abbrev pub dots_4_to_6 : List Bool
dots_4_to_6 = false ∷ false ∷ false ∷ false ∷ true ∷ true ∷ true ∷ false ∷ []

abbrev pub dot_5 : List Bool
dot_5 = false ∷ false ∷ false ∷ false ∷ false ∷ true ∷ false ∷ false ∷ []

abbrev pub dots_5_and_6 : List Bool
dots_5_and_6 = false ∷ false ∷ false ∷ false ∷ false ∷ true ∷ true ∷ false ∷ []

abbrev pub dot_7 : List Bool
dot_7 = false ∷ false ∷ false ∷ false ∷ false ∷ false ∷ false ∷ true ∷ []
