-- Pages that come to a fault of fonts, worked out by hand.
use Rattle.std.specs.Prelude.{◌≡◌, ℕ, ℤ, pos, Bool, true, List, [], ◌∷◌, Some, None, Option}
use Rattle.outside.specs.declared.keys.FontKey.{FontKey}
use Rattle.dvi_commands.specs.Spelling.{Right, Set}
use Rattle.dvi_commands.specs.Reading.{Placed, placed}
use Rattle.drift_rules.specs.Position as flat
use Rattle.page_index.specs.Document.{Reading, font_table}
use Rattle.font_decode.specs.Fonts.{FontValue, scaled_width_of, is_virtual_of, packet_of, local_of, first_local_of}
use Rattle.font_decode.specs.declared.font_or_fault.Decoded.TheVariants as decoded
use Rattle.vf_expand.specs.Faults.{PageFaultValue}
use Rattle.vf_expand.specs.Faults as fault
use Rattle.vf_expand.specs.Course.{NoFont}
use Rattle.vf_expand.specs.Members.{Flat, LookUp}
use Rattle.vf_expand.specs.PageLists.{AtFault, Fonts, full_list}
use Rattle.vf_expand.specs.Laws.{characters, worked}

-- ---- on a page

-- a motion and a character before any font, with their positions
abbrev pub before_fonts : List Placed
before_fonts =
    placed 60 (Right (pos 9)) (143 ∷ 9 ∷ []) ∷ placed 62 (Set (pos 65)) (65 ∷ []) ∷ []

-- the space is 0 there, and a character has no font; a change to a font without a definition is a
-- fault at once. Neither is a lack
pub record PagesWithoutFonts (tolerant : Bool) (fonts : Fonts) (reading : Reading) : Type 0 where
  pub none : full_list tolerant fonts reading 68 NoFont before_fonts ≡ record {
    members = Flat (flat.Right (pos 9) (pos 0)) None 60 ∷ [];
    ending = AtFault fault.NoCurrentFont 62;
  }
  pub undefined : font_table reading (pos 7) ≡ None
      → full_list tolerant fonts reading 68 NoFont worked ≡ record {
        members = [];
        ending = AtFault (fault.NoFont (pos 7)) 60;
      }

abbrev pub FontsOfPagesAreWorked : Type 0
FontsOfPagesAreWorked =
    (tolerant : Bool) (fonts : Fonts) (reading : Reading)
    → PagesWithoutFonts tolerant fonts reading

-- ---- in a packet

-- a virtual font whose first local font has this number, where there is one; its character 65 is 6
-- units wide and has this packet
pub record IsVirtualWith (f : FontValue) (local : Option ℤ) (text : List ℕ) : Type 0 where
  pub virtual : is_virtual_of f ≡ true
  pub width : scaled_width_of f (pos 65) ≡ Some (pos 6)
  pub packet : packet_of f 65 ≡ Some text
  pub first : first_local_of f ≡ local

-- a page whose font has this packet comes to this fault in it, at the page's own command
abbrev pub StopsInPacket : Bool → Fonts → Reading → FontKey → PageFaultValue → Type 0
StopsInPacket tolerant fonts reading k f =
    full_list tolerant fonts reading 85 NoFont characters ≡ record {
      members = Flat flat.Skip None 80 ∷ LookUp k 81 ∷ Flat flat.Enter None 81 ∷ [];
      ending = AtFault f 81;
    }

-- a packet that sets the character 65 where its font has no local font; one that changes to the
-- local font 1 where there is only 0; and the same where there is none, of which no number is named
pub record PacketsWithoutFonts (tolerant : Bool) (fonts : Fonts) (reading : Reading) (k : FontKey)
    (f : FontValue) : Type 0 where
  pub none : IsVirtualWith f None (65 ∷ []) → StopsInPacket tolerant fonts reading k
      (fault.NoLocalFont k None)
  pub undefined : IsVirtualWith f (Some (pos 0)) (172 ∷ []) → local_of f (pos 1) ≡ None
      → StopsInPacket tolerant fonts reading k (fault.NoLocalFont k (Some (pos 1)))
  pub unnamed : IsVirtualWith f None (172 ∷ []) → local_of f (pos 1) ≡ None
      → StopsInPacket tolerant fonts reading k (fault.NoLocalFont k None)

abbrev pub FontsOfPacketsAreWorked : Type 0
FontsOfPacketsAreWorked =
    (tolerant : Bool) (fonts : Fonts) (reading : Reading) (k : FontKey) (f : FontValue)
    → font_table reading (pos 0) ≡ Some k
    → fonts k ≡ decoded.Font f → PacketsWithoutFonts tolerant fonts reading k f
