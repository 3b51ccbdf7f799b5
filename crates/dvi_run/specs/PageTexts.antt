-- The faults of a page in words.
use Rattle.std.specs.Prelude.{ℕ, List, ◌++◌, Some, None, codes}
use Rattle.std.specs.Fmt.{signed_decimal}
use Rattle.drift_rules.specs.declared.faults.PenFault.{PenFault}
use Rattle.drift_rules.specs.declared.faults.PenFault.TheVariants as pen
use Rattle.vf_expand.specs.Faults.{PageFaultValue}
use Rattle.vf_expand.specs.Faults as page
use Rattle.run_report.specs.Keys.{key_text}
use Rattle.dvi_run.specs.FontTexts.{font_text}

abbrev pub pen_text : PenFault → List ℕ
pen_text pen.Overflow = codes "overflow"
pen_text pen.StackEmpty = codes "stack empty"
pen_text pen.StackDeep = codes "stack deep"
pen_text pen.StackLeft = codes "stack left"

abbrev pub fault_text : PageFaultValue → List ℕ
fault_text (page.NoFont number) = codes "no font " ++ signed_decimal number
fault_text page.NoCurrentFont = codes "no current font"
fault_text (page.NoCharacter k c) =
    codes "no character " ++ signed_decimal c ++ codes " in " ++ key_text k
fault_text (page.NoGlyph k c) = codes "no glyph " ++ signed_decimal c ++ codes " in " ++ key_text k
fault_text (page.NoPacket k c) =
    codes "no packet " ++ signed_decimal c ++ codes " in " ++ key_text k
fault_text (page.NoLocalFont k None) = codes "no local font in " ++ key_text k
fault_text (page.NoLocalFont k (Some number)) =
    codes "no local font " ++ signed_decimal number ++ codes " in " ++ key_text k
fault_text (page.Depth k c) = codes "depth at " ++ signed_decimal c ++ codes " in " ++ key_text k
fault_text page.TooLong = codes "too long"
fault_text (page.Font k fault) = codes "font " ++ key_text k ++ codes ": " ++ font_text fault
fault_text (page.Pen fault) = pen_text fault
