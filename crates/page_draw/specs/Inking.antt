-- One flat command on a page: the pen's next state, and the mark that it sets.
use Rattle.std.specs.Prelude.{◌≡◌, List, ◌++◌, Option, Result, Ok}
use Rattle.outside.specs.declared.keys.FontKey.{FontKey}
use Rattle.drift_rules.specs.Position.{Char, FlatCommand, PenView, State, state_after}
use Rattle.drift_rules.specs.Marks.{mark_of}
use Rattle.drift_rules.specs.declared.faults.PenFault.{PenFault}
use Rattle.packed_rows.specs.Bitmap.{Bitmap}
use Rattle.pk_runs.specs.declared.glyph.Glyph.{Glyph}
use Rattle.raster_page.specs.Ink.{Inked, page_of}
use Rattle.vf_expand.specs.declared.step.PackedChar.{PackedChar}
use Rattle.page_draw.specs.Sheets.{inks_of}
use Rattle.page_draw.specs.declared.sheet.Sheet.{Sheet}

-- where a pen goes by a flat command
abbrev pub step_of : PenView → FlatCommand → Result State PenFault
step_of pen f = state_after pen.conv pen.state f

abbrev pub Moves : PenView → FlatCommand → PenView → Type 0
Moves old f new = step_of old f ≡ Ok new.state

-- a page of marks has one more: that of a flat command, at the pen's place before it, with its
-- glyph
abbrev pub Inks : Sheet → PenView → FlatCommand → Option Glyph → Bitmap → Bitmap → Type 0
Inks sheet pen f glyph old new = (done : List Inked) → old ≡ page_of sheet.width sheet.height done
    → new ≡ page_of sheet.width sheet.height (done ++ inks_of sheet
    (mark_of pen.conv pen.state.now f) glyph)

-- the flat command of a character, of some font
abbrev pub set_in : FontKey → PackedChar → FlatCommand
set_in key packed = Char key packed.code packed.width packed.put
