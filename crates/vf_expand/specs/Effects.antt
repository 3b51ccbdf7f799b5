-- What one command gives, by the definition.
use Rattle.std.specs.Prelude.{◌≡◌, ◌<◌, ℕ, ◌-◌, ℤ, unsigned_abs, Bool, List, Option, Some, IfSome, IsTrue}
use Rattle.std.specs.Arc.{arc_value}
use Rattle.outside.specs.declared.keys.FontKey.{FontKey}
use Rattle.dvi_commands.specs.Spelling.{DviCommand, Set, Put, Font, SetRule, PutRule, Right, W, X, Down, Y, Z}
use Rattle.dvi_commands.specs.Reading.{commands_of}
use Rattle.drift_rules.specs.Position.{FlatCommand, Char, value_of_flat}
use Rattle.drift_rules.specs.Position as flat
use Rattle.drift_rules.specs.Bounds.{IsInReach, IsNumber}
use Rattle.outside.specs.FontKeys.{IsFontKey}
use Rattle.pk_runs.specs.declared.glyph.Glyph.{Glyph}
use Rattle.font_decode.specs.Fonts.{FontValue, packet_of, IsProgram}
use Rattle.font_decode.specs.declared.font_or_fault.Decoded.{Decoded}
use Rattle.font_decode.specs.declared.font_or_fault.Decoded.TheVariants as decoded
use Rattle.fix_word.specs.FixWords.{IsFixWord}
use Rattle.vf_expand.specs.Faults.{is_lack, value_of_fault}
use Rattle.vf_expand.specs.Course.{Course, Gives, Asks, Stops, gives, lacking, OnPage, InPacket, deeper, expand_one, expand_list, character, first_font, font_change, leave, virtual}
use Rattle.vf_expand.specs.Course as course
use Rattle.vf_expand.specs.Expansion.{GivesNoPackedChar, glyph_in}
use Rattle.vf_expand.specs.declared.current.Current.{Current}
use Rattle.vf_expand.specs.declared.current.Current.TheVariants as code
use Rattle.vf_expand.specs.declared.outer_levels.Level.{Level}
use Rattle.vf_expand.specs.declared.effect.Place.{Place}
use Rattle.vf_expand.specs.declared.effect.Place.TheVariants.{Page, Packet}
use Rattle.vf_expand.specs.declared.effect.Effect.{Effect}
use Rattle.vf_expand.specs.declared.effect.Effect.TheVariants.{Flat, Char as CharEffect, Change, Ask, Enter, Lack, Stop}

abbrev pub value_of_current : Current → course.Current
value_of_current code.NoFont = course.NoFont
value_of_current (code.Chosen key) = course.Chosen (arc_value key)
value_of_current (code.Known key font) = course.Known (arc_value key) (arc_value font)

abbrev pub value_of_place : Place → course.Place
value_of_place (Page index) = OnPage index.now.reading
value_of_place (Packet key font) = InPacket (arc_value key.now) font.now

-- the current font's key is one of a document
abbrev pub HasKey : course.Current → Type 0
HasKey course.NoFont = Unit {0}
HasKey (course.Chosen k) = IsFontKey k
HasKey (course.Known k d) = IsFontKey k

-- in a packet dimensions are fix_words from -16 to less than 16
abbrev pub IsDimension : course.Place → ℤ → Type 0
IsDimension (OnPage reading) z = Unit {0}
IsDimension (InPacket k f) z = IsFixWord z

abbrev pub HasDimensions : course.Place → DviCommand → Type 0
HasDimensions place (SetRule a b) = IsDimension place a × IsDimension place b
HasDimensions place (PutRule a b) = IsDimension place a × IsDimension place b
HasDimensions place (Right b) = IsDimension place b
HasDimensions place (W b) = IsDimension place b
HasDimensions place (X b) = IsDimension place b
HasDimensions place (Down a) = IsDimension place a
HasDimensions place (Y a) = IsDimension place a
HasDimensions place (Z a) = IsDimension place a
HasDimensions place _ = Unit {0}

-- characters and font changes: every other command gives one flat command, whatever font is current
abbrev pub GivesNoFlat : DviCommand → Type 0
GivesNoFlat (Set c) = Unit {0}
GivesNoFlat (Put c) = Unit {0}
GivesNoFlat (Font number) = Unit {0}
GivesNoFlat _ = ⊥

-- what a command makes of the current font, its position and what stands after it
abbrev pub Meaning : Type 0
Meaning = course.Current → ℕ → (course.Current → Course) → Course

-- a character, with its glyph in the font that was found
pub record IsCharEffect (meaning : Meaning) (current : course.Current) (f : FlatCommand) : Type
    0 where
  pub key : FontKey
  pub font : Decoded
  pub code : ℕ
  pub width : ℤ
  pub put : Bool
  pub glyph : Glyph
  pub known : current ≡ course.Known key font
  pub char : f ≡ Char key code width put
  pub has : glyph_in (Some font) code ≡ Some glyph
  pub gives : (at : ℕ) (others : course.Current → Course)
      → meaning current at others ≡ Gives f (Some glyph) at (others current)

-- the beginning of a packet of the font that was found, where one packet fewer may then stand
-- inside it
pub record IsEntry (n : ℕ) (meaning : Meaning) (current : course.Current) (level : Level)
    : Type 0 where
  pub key : FontKey
  pub font : FontValue
  pub text : List ℕ
  pub known : current ≡ course.Known key (decoded.Font font)
  pub some : 0 < n
  pub packet : packet_of font level.code ≡ Some text
  pub program : IsProgram level.code text
  pub prefix : level.pos ≡ 0
  pub first : value_of_current level.current ≡ first_font font
  pub gives : (at : ℕ) (others : course.Current → Course) → meaning current at others
      ≡ gives flat.Enter at (expand_list (expand_one (deeper (n - 1) at) (InPacket key font) at)
      (first_font font) (commands_of text) (leave level.advance at (others current)))

-- any flat command but a character
abbrev pub IsNoCharacter : FlatCommand → Type 0
IsNoCharacter f = (k : FontKey) (c : ℕ) (width : ℤ) (put : Bool) → f ≡ Char k c width put → ⊥

-- an effect is what a command gives, whatever stands after it, where n packets may stand inside one
-- another
abbrev pub IsMeaning : ℕ → Meaning → course.Current → Effect → Type 0
IsMeaning n meaning current (Flat f) =
    (at : ℕ) (others : course.Current → Course) → meaning current at others
    ≡ gives (value_of_flat f) at (others current)
IsMeaning n meaning current (CharEffect f) = IsCharEffect meaning current (value_of_flat f)
IsMeaning n meaning current (Change key) =
    (at : ℕ) (others : course.Current → Course) → meaning current at others ≡ gives flat.Skip at
    (others (course.Chosen (arc_value key)))
IsMeaning n meaning current (Ask key) = (current ≡ course.Chosen (arc_value key))
    × ((at : ℕ) (others : course.Current → Course)
    → meaning current at others ≡ Asks (arc_value key) at
    (λ d. meaning (course.Known (arc_value key) d) at others))
IsMeaning n meaning current (Enter level) = IsEntry n meaning current level
IsMeaning n meaning current (Lack fault advance) =
    (at : ℕ) (others : course.Current → Course) → meaning current at others
    ≡ lacking at (value_of_fault fault) advance (others current)
IsMeaning n meaning current (Stop fault) =
    (at : ℕ) (others : course.Current → Course) → meaning current at others
    ≡ Stops (value_of_fault fault) at

abbrev pub HasEffect : course.Place → ℕ → course.Current → DviCommand → Effect → Type 0
HasEffect place n current c effect =
    IsMeaning n (λ now at others. expand_one (deeper n at) place at now c others) current effect

abbrev pub CharacterHasEffect : course.Place → ℕ → course.Current → ℤ → Bool → Effect → Type 0
CharacterHasEffect place n current c put effect =
    IsMeaning n (λ now at others. character (deeper n at) place at now c put others) current effect

-- a character of a virtual font that was found
abbrev pub VirtualHasEffect : ℕ → FontKey → FontValue → ℤ → Option ℤ → Effect → Type 0
VirtualHasEffect n k f c advance effect =
    IsMeaning n (λ now at others. virtual (deeper n at) at k f c advance (others now))
    (course.Known k (decoded.Font f)) effect

-- a character of a font that was found, wherever it stands
abbrev pub DecodedHasEffect : ℕ → FontKey → Decoded → ℤ → Bool → Effect → Type 0
DecodedHasEffect n k d c put effect =
    (place : course.Place) → CharacterHasEffect place n (course.Known k d) c put effect

-- a character that is set or put, wherever it stands, is one of a packed font with this key and
-- this width
abbrev pub SetsPackedChar : course.Current → ℤ → FontKey → ℤ → Type 0
SetsPackedChar current c key width =
    (put : Bool) (place : course.Place) (n : ℕ) → IsCharEffect
    (λ now at others. character (deeper n at) place at now c put others) current
    (Char key (unsigned_abs c) width put)

-- a character that is set or put, wherever it stands, is none of a packed font that was found and
-- has its glyph
abbrev pub SetsNoPackedChar : course.Current → ℤ → Type 0
SetsNoPackedChar current c =
    (put : Bool) (place : course.Place) (n at : ℕ) (others : course.Current → Course)
    → GivesNoPackedChar (character (deeper n at) place at current c put others)

abbrev pub ChangeHasEffect : course.Place → ℕ → course.Current → ℤ → Effect → Type 0
ChangeHasEffect place n current number effect =
    IsMeaning n (λ now at others. font_change place at number others) current effect

-- a flat command may be handed to a pen, a key to a decoder, and a lack tolerated
abbrev pub EffectFits : Effect → Type 0
EffectFits (Flat f) = IsInReach (value_of_flat f) × IsNoCharacter (value_of_flat f)
EffectFits (CharEffect f) = IsInReach (value_of_flat f)
EffectFits (Change key) = IsFontKey (arc_value key)
EffectFits (Ask key) = IsFontKey (arc_value key)
EffectFits (Enter level) = HasKey (value_of_current level.current) × IfSome level.advance IsNumber
EffectFits (Lack fault advance) =
    IfSome advance IsNumber × IsTrue (is_lack (value_of_fault fault))
EffectFits (Stop fault) = Unit {0}
