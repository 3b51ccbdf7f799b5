-- A step is what the course has next, and leaves what stands after it.
use Rattle.std.specs.Prelude.{◌≡◌, ◌<◌, ◌≤◌, IsSome, IsTrue, Option, None, Some}
use Rattle.std.specs.Arc.{arc_value}
use Rattle.outside.specs.declared.keys.FontKey.{FontKey}
use Rattle.drift_rules.specs.Position.{FlatCommand, Char, value_of_flat}
use Rattle.drift_rules.specs.Bounds.{IsInReach}
use Rattle.outside.specs.FontKeys.{IsFontKey}
use Rattle.pk_runs.specs.declared.glyph.Glyph.{Glyph}
use Rattle.font_decode.specs.declared.font_or_fault.Decoded.{Decoded}
use Rattle.vf_expand.specs.Faults.{PageFaultValue, is_lack, value_of_fault}
use Rattle.vf_expand.specs.Course.{Gives, Asks, Lacks, Ends, Stops}
use Rattle.vf_expand.specs.Expansion.{Expansion, IsAtLook, rest_of, after_answer, glyph_in, marked_font, asks_left, steps_left}
use Rattle.vf_expand.specs.declared.step.PackedChar.{PackedChar}
use Rattle.vf_expand.specs.declared.step.Step.{Step}
use Rattle.vf_expand.specs.declared.step.Step.TheVariants.{Flat, Ask, Lack, End, Stop}

-- the same comes again
pub record Stays (old new : Expansion) : Type 0 where
  pub left : rest_of new ≡ rest_of old
  pub unmarked : marked_font new ≡ None
  pub asks : asks_left new ≡ asks_left old

-- a character comes with its font and its glyph there, and any other flat command without both
abbrev pub HasItsGlyph : Option Decoded → FlatCommand → Option Glyph → Type 0
HasItsGlyph font (Char k c width put) glyph = IsSome glyph × (glyph ≡ glyph_in font c)
HasItsGlyph font f glyph = (font ≡ None) × (glyph ≡ None)

-- a flat command, and fewer steps than before
pub record GivesOne (old new : Expansion) (f : FlatCommand) (glyph : Option Glyph) : Type 0 where
  pub given : rest_of old ≡ Gives f glyph new.at (rest_of new)
  pub has : HasItsGlyph (marked_font new) f glyph
  pub asks : asks_left new ≤ asks_left old
  pub fewer : steps_left new < steps_left old

-- the key of a look-up, which still stands next
pub record AsksOne (old new : Expansion) (k : FontKey) : Type 0 where
  pub asked : rest_of old ≡ Asks k new.at (after_answer (rest_of old))
  pub look : IsAtLook (rest_of new)
  pub left : rest_of new ≡ rest_of old
  pub unmarked : marked_font new ≡ None
  pub some : 0 < asks_left old
  pub asks : asks_left new ≡ asks_left old
  pub steps : steps_left new ≡ steps_left old

-- a lack, before what comes in the character's place, and fewer steps than before
pub record LacksOne (old new : Expansion) (fault : PageFaultValue) : Type 0 where
  pub lacked : rest_of old ≡ Lacks fault new.at (rest_of new)
  pub unmarked : marked_font new ≡ None
  pub asks : asks_left new ≡ asks_left old
  pub fewer : steps_left new < steps_left old

abbrev pub Steps : Expansion → Step → Expansion → Type 0
Steps old (Flat f) new = (glyph : Option Glyph) × GivesOne old new (value_of_flat f) glyph
Steps old (Ask key) new = AsksOne old new (arc_value key)
Steps old (Lack lack) new = LacksOne old new (value_of_fault lack.fault) × (lack.at ≡ new.at)
Steps old End new = (rest_of old ≡ Ends new.at) × Stays old new
Steps old (Stop fault) new = (rest_of old ≡ Stops (value_of_fault fault) new.at) × Stays old new

-- a character, of some font, with its glyph in that font and its place
pub record GivesPackedChar (old : Expansion) (packed : PackedChar) (new : Expansion) : Type 0 where
  pub key : FontKey
  pub one : GivesOne old new (Char key packed.code packed.width packed.put) (Some packed.glyph.now)
  pub place : packed.at ≡ new.at

-- a flat command may be handed to a pen, and a key to a decoder; a lack is a missing font,
-- character, glyph or packet
abbrev pub StepFits : Step → Type 0
StepFits (Flat f) = IsInReach (value_of_flat f)
StepFits (Ask key) = IsFontKey (arc_value key)
StepFits (Lack lack) = IsTrue (is_lack (value_of_fault lack.fault))
StepFits End = Unit {0}
StepFits (Stop fault) = Unit {0}
