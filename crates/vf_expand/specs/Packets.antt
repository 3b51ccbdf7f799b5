-- What the packet of a virtual character leaves of a page's pushes: Knuth, VFtoVP, "Virtual fonts"
-- (in each packet push and pop are properly nested, and after it all is as it was).
use Rattle.std.specs.Prelude.{◌≡◌, ℕ, ℤ, Bool, false, Option, Some, List, [], ◌∷◌, ◌++◌}
use Rattle.outside.specs.Library as library
use Rattle.outside.specs.declared.keys.FontKey.{FontKey}
use Rattle.pixel_round.specs.Pixels.{Fraction}
use Rattle.pixel_round.specs.declared.units.Units.{Units}
use Rattle.dvi_commands.specs.Reading.{commands_of}
use Rattle.drift_rules.specs.Position.{FlatCommand, State, Leads, Step, Char, Enter, Leave, Advance}
use Rattle.drift_rules.specs.Stack.{IsBalanced}
use Rattle.font_decode.specs.Decoding.{IsFontOf}
use Rattle.font_decode.specs.Fonts.{FontValue, packet_of}
use Rattle.font_decode.specs.declared.font_or_fault.Decoded.TheVariants as decoded
use Rattle.vf_expand.specs.Course.{Current, InPacket, first_font}
use Rattle.vf_expand.specs.Members.{Member, Flat, LookUp, Lack}
use Rattle.vf_expand.specs.PageLists.{Fonts, Outcome, Goes, of_command, of_list, packets_in}

-- the flat commands among members
abbrev pub flats_of : List Member → List FlatCommand
flats_of [] = []
flats_of (Flat f g at ∷ members) = f ∷ flats_of members
flats_of (LookUp k at ∷ members) = flats_of members
flats_of (Lack f at ∷ members) = flats_of members

-- the font that is found for each key is what its files come to: those of a library, where one is
-- known, and else some files
abbrev pub AreFontsOf : Option library.FileTable → Units → Fonts → Type 0
AreFontsOf known u fonts = (k : FontKey) → IsFontOf known (Some u) k (fonts k)

-- what a packet of a font gives, where n packets may stand inside it
abbrev pub packet_outcome : Bool → Fonts → ℕ → ℕ → FontKey → FontValue → List ℕ → Outcome
packet_outcome tolerant fonts n at k f packet =
    of_list (of_command tolerant fonts (packets_in tolerant fonts n at) (InPacket k f) at)
    (first_font f) (commands_of packet)

-- a packet of such a font, and the members that it gives, which come to no fault, whether lacks are
-- tolerated or aren't
pub record IsPacketGiven (fonts : Fonts) (members : List Member) : Type 0 where
  pub tolerant : Bool
  pub known : Option library.FileTable
  pub units : Units
  pub found : AreFontsOf known units fonts
  pub key : FontKey
  pub font : FontValue
  pub is_font : IsFontOf known (Some units) key (decoded.Font font)
  pub code : ℕ
  pub packet : List ℕ
  pub here : packet_of font code ≡ Some packet
  pub inside : ℕ
  pub at : ℕ
  pub last : Current
  pub gives : packet_outcome tolerant fonts inside at key font packet ≡ Goes members last

-- ---- laws

-- its flat commands are balanced, with those of the packets inside it
abbrev pub PacketsAreBalanced : Type 0
PacketsAreBalanced =
    (fonts : Fonts) (members : List Member) → IsPacketGiven fonts members
    → IsBalanced (flats_of members)

-- so a virtual character that is set moves the page as a packed one of its width does, whatever its
-- packet holds
abbrev pub CharactersMoveAsPacked : Type 0
CharactersMoveAsPacked =
    (c : Fraction) (s t : State) (fonts : Fonts) (members : List Member) (key : FontKey) (code : ℕ)
    (width : ℤ)
    → IsPacketGiven fonts members
    → Leads c s (Enter ∷ flats_of members ++ Leave ∷ Advance width ∷ []) t
    → Step c s (Char key code width false) t
