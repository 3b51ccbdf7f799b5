-- What is true of the lacks of a page: missing fonts, characters, glyphs and packets that a
-- tolerant run goes past.
use Rattle.std.specs.Prelude.{◌≡◌, ℕ, ℤ, pos, Bool, true, false, List, [], ◌∷◌, Option, Some, None, IsTrue, IsFalse, if◌then◌else◌}
use Rattle.outside.specs.declared.keys.FontKey.{FontKey}
use Rattle.dvi_commands.specs.Spelling.{Font, Put, PutRule, Set}
use Rattle.dvi_commands.specs.Reading.{Placed, placed}
use Rattle.drift_rules.specs.Position as flat
use Rattle.page_index.specs.Document.{Reading, font_table}
use Rattle.font_decode.specs.Fonts.{FontValue, scaled_width_of, glyph_at, is_virtual_of, packet_of}
use Rattle.font_decode.specs.declared.font_or_fault.Decoded.TheVariants as decoded
use Rattle.font_decode.specs.declared.faults.FileKind.TheVariants.{Tfm, Pk}
use Rattle.font_decode.specs.declared.faults.FontFault.TheVariants.{Missing}
use Rattle.vf_expand.specs.Faults.{PageFaultValue, TooLong, is_lack}
use Rattle.vf_expand.specs.Faults as fault
use Rattle.vf_expand.specs.Course.{NoFont, advance_of, in_place}
use Rattle.vf_expand.specs.Members.{Member, Flat, LookUp, Lack}
use Rattle.vf_expand.specs.PageLists.{Ending, AtEnd, AtFault, Fonts, PageList, full_list, list_after, list_of, no_more, up_to_limit}

-- ---- what a lack is

-- each lack is a missing font, character, glyph or packet
abbrev pub AreLacks : List Member → Type 0
AreLacks [] = Unit {0}
AreLacks (Flat f g at ∷ members) = AreLacks members
AreLacks (LookUp k at ∷ members) = AreLacks members
AreLacks (Lack f at ∷ members) = IsTrue (is_lack f) × AreLacks members

-- and what ends the page is none of these
abbrev pub EndsOtherwise : Ending → Type 0
EndsOtherwise (AtEnd at) = Unit {0}
EndsOtherwise (AtFault f at) = IsFalse (is_lack f)

pub record IsTolerant (list : PageList) : Type 0 where
  pub lacks : AreLacks list.members
  pub ending : EndsOtherwise list.ending

abbrev pub TolerantPagesGoOn : Type 0
TolerantPagesGoOn =
    (fonts : Fonts) (reading : Reading) (i : ℕ) → IsTolerant (list_of true fonts reading i)

-- ---- where lacks aren't tolerated

-- a list up to its first lack, which is then the page's fault
abbrev pub up_to_lack : List Member → Ending → PageList
up_to_lack [] ending = no_more ending
up_to_lack (Flat f g at ∷ members) ending =
    list_after (Flat f g at ∷ []) (up_to_lack members ending)
up_to_lack (LookUp k at ∷ members) ending =
    list_after (LookUp k at ∷ []) (up_to_lack members ending)
up_to_lack (Lack f at ∷ members) ending = no_more (AtFault f at)

-- the page is the same up to its first lack, and ends there
abbrev pub StrictPagesStopAtALack : Type 0
StrictPagesStopAtALack =
    (fonts : Fonts) (reading : Reading) (i : ℕ) → list_of false fonts reading i
    ≡ up_to_lack (list_of true fonts reading i).members (list_of true fonts reading i).ending

-- ---- worked pages

-- a page that sets or puts one character of font 0, and then a rule of 2 by 2; Eop at 91
abbrev pub one_character : Bool → ℤ → List Placed
one_character put c =
    placed 79 (Font (pos 0)) (171 ∷ []) ∷ placed 80 (if put then Put c else Set c) []
    ∷ placed 82 (PutRule (pos 2) (pos 2)) [] ∷ []

-- in a tolerant run the character is a lack, and moves so far; in any other the lack is the page's
-- fault
abbrev pub lacks_it : FontKey → PageFaultValue → Option ℤ → Bool → PageList
lacks_it k f advance true = record {
  members = Flat flat.Skip None 79 ∷ LookUp k 80 ∷ Lack f 80 ∷ Flat (in_place advance) None 80
      ∷ Flat (flat.Rule (pos 2) (pos 2) true) None 82 ∷ [];
  ending = AtEnd 91;
}
lacks_it k f advance false =
    record { members = Flat flat.Skip None 79 ∷ LookUp k 80 ∷ []; ending = AtFault f 80 }

abbrev pub LacksIt : Fonts → Reading → FontKey → Bool → ℤ → PageFaultValue → Option ℤ → Type 0
LacksIt fonts reading k put c f advance =
    (tolerant : Bool) → full_list tolerant fonts reading 91 NoFont (one_character put c)
    ≡ lacks_it k f advance tolerant

-- a character of a font without a TFM file, of a bare font, and of one that hasn't its width, its
-- glyph or its packet; in a font that has its width it moves so far where it is set, and not at all
-- where it is put
pub record LacksAre (fonts : Fonts) (reading : Reading) (k : FontKey) : Type 0 where
  pub no_file : (put : Bool) (c : ℤ) → fonts k ≡ decoded.Fault (Missing Tfm)
      → LacksIt fonts reading k put c (fault.Font k (Missing Tfm)) None
  pub bare : (put : Bool) (c width : ℤ) (f : FontValue) → fonts k ≡ decoded.Bare f
      → scaled_width_of f c ≡ Some width
      → LacksIt fonts reading k put c (fault.Font k (Missing Pk)) (advance_of width put)
  pub bare_none : (put : Bool) (c : ℤ) (f : FontValue) → fonts k ≡ decoded.Bare f
      → scaled_width_of f c ≡ None
      → LacksIt fonts reading k put c (fault.Font k (Missing Pk)) None
  pub no_width : (put : Bool) (c : ℤ) (f : FontValue) → fonts k ≡ decoded.Font f
      → scaled_width_of f c ≡ None
      → LacksIt fonts reading k put c (fault.NoCharacter k c) None
  pub no_glyph : (put : Bool) (c : ℕ) (width : ℤ) (f : FontValue) → fonts k ≡ decoded.Font f
      → is_virtual_of f ≡ false → scaled_width_of f (pos c) ≡ Some width → glyph_at f c ≡ None
      → LacksIt fonts reading k put (pos c) (fault.NoGlyph k (pos c)) (advance_of width put)
  pub no_packet : (put : Bool) (c : ℕ) (width : ℤ) (f : FontValue) → fonts k ≡ decoded.Font f
      → is_virtual_of f ≡ true → scaled_width_of f (pos c) ≡ Some width → packet_of f c ≡ None
      → LacksIt fonts reading k put (pos c) (fault.NoPacket k (pos c)) (advance_of width put)

abbrev pub LacksAreWorked : Type 0
LacksAreWorked =
    (fonts : Fonts) (reading : Reading) (k : FontKey) → font_table reading (pos 0) ≡ Some k
    → LacksAre fonts reading k

-- where one flat command may be given, the look-up and the lack before the second one aren't there;
-- where two may, they are
abbrev pub LacksAreCut : Type 0
LacksAreCut = (k : FontKey) (f : PageFaultValue) (advance : Option ℤ)
    → (up_to_limit 1 (lacks_it k f advance true).members (AtEnd 91)
    ≡ record { members = Flat flat.Skip None 79 ∷ []; ending = AtFault TooLong 80 })
    × (up_to_limit 2 (lacks_it k f advance true).members (AtEnd 91) ≡ record {
      members = Flat flat.Skip None 79 ∷ LookUp k 80 ∷ Lack f 80 ∷ Flat (in_place advance) None 80
          ∷ [];
      ending = AtFault TooLong 82;
    })
