-- Why a page has no bitmap.
use Rattle.std.specs.Prelude.{ℤ, Bool, true, false, Option}
use Rattle.std.specs.Arc.{arc_value}
use Rattle.outside.specs.declared.keys.FontKey.{FontKey}
use Rattle.drift_rules.specs.declared.faults.PenFault.{PenFault}
use Rattle.font_decode.specs.declared.faults.FileKind.TheVariants.{Tfm, Pk}
use Rattle.font_decode.specs.declared.faults.FontFault.{FontFault}
use Rattle.font_decode.specs.declared.faults.FontFault.TheVariants.{Missing}
use Rattle.vf_expand.specs.declared.faults.PageFault.{PageFault}
use Rattle.vf_expand.specs.declared.faults.PageFault.TheVariants as code

-- without the keys' places in memory
pub data PageFaultValue : Type 0 where
  NoFont : ℤ → PageFaultValue
  NoCurrentFont : PageFaultValue
  NoCharacter : FontKey → ℤ → PageFaultValue
  NoGlyph : FontKey → ℤ → PageFaultValue
  NoPacket : FontKey → ℤ → PageFaultValue
  NoLocalFont : FontKey → Option ℤ → PageFaultValue
  Depth : FontKey → ℤ → PageFaultValue
  TooLong : PageFaultValue
  Font : FontKey → FontFault → PageFaultValue
  Pen : PenFault → PageFaultValue

abbrev pub value_of_fault : PageFault → PageFaultValue
value_of_fault (code.NoFont number) = NoFont number
value_of_fault code.NoCurrentFont = NoCurrentFont
value_of_fault (code.NoCharacter key c) = NoCharacter (arc_value key) c
value_of_fault (code.NoGlyph key c) = NoGlyph (arc_value key) c
value_of_fault (code.NoPacket key c) = NoPacket (arc_value key) c
value_of_fault (code.NoLocalFont key number) = NoLocalFont (arc_value key) number
value_of_fault (code.Depth key c) = Depth (arc_value key) c
value_of_fault code.TooLong = TooLong
value_of_fault (code.Font key fault) = Font (arc_value key) fault
value_of_fault (code.Pen fault) = Pen fault

-- ---- which faults are lacks: a page of a tolerant run goes past them

-- files of a font that aren't there: that of its widths, or those of its glyphs
abbrev pub is_missing : FontFault → Bool
is_missing (Missing Tfm) = true
is_missing (Missing Pk) = true
is_missing _ = false

-- a missing font, character, glyph or packet
abbrev pub is_lack : PageFaultValue → Bool
is_lack (NoCharacter key c) = true
is_lack (NoGlyph key c) = true
is_lack (NoPacket key c) = true
is_lack (Font key fault) = is_missing fault
is_lack _ = false
