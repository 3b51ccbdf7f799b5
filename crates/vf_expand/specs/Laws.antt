-- What is true of a page's course and its list, whether lacks are tolerated or aren't.
use Rattle.std.specs.Prelude.{◌≡◌, ℕ, zero, suc, ◌/◌, ℤ, pos, negsuc, Bool, true, false, List, [], ◌∷◌, ◌++◌, Some, None}
use Rattle.outside.specs.Library as library
use Rattle.outside.specs.declared.keys.FontKey.{FontKey}
use Rattle.pixel_round.specs.declared.units.Units.{Units}
use Rattle.dvi_commands.specs.Spelling.{Font, Put, Right, Set}
use Rattle.dvi_commands.specs.Reading.{Placed, placed}
use Rattle.drift_rules.specs.Position as flat
use Rattle.page_index.specs.Document.{Reading, font_table}
use Rattle.pk_runs.specs.declared.glyph.Glyph.{Glyph}
use Rattle.font_decode.specs.Decoding.{IsFontIn}
use Rattle.font_decode.specs.Fonts.{FontValue, scaled_width_of, glyph_at, is_virtual_of, packet_of, local_of, first_local_of}
use Rattle.font_decode.specs.declared.font_or_fault.Decoded.TheVariants as decoded
use Rattle.font_decode.specs.Laws.{AreByteFiles}
use Rattle.vf_expand.specs.Faults.{Depth, TooLong}
use Rattle.vf_expand.specs.Course.{Course, NoFont, course_of}
use Rattle.vf_expand.specs.Members.{Member, Flat, LookUp, Unfolds, looks_of}
use Rattle.vf_expand.specs.PageLists.{AtEnd, AtFault, Fonts, list_after, full_list, up_to_limit, list_from, list_of, no_more}

-- whatever the fonts are, the course of a page comes to its list
abbrev pub CoursesAreLists : Type 0
CoursesAreLists =
    (tolerant : Bool) (fonts : Fonts) (reading : Reading) (i : ℕ)
    → list_from fonts (course_of tolerant reading i) ≡ list_of tolerant fonts reading i

-- the fonts of a library
abbrev pub AreFontsIn : library.FileTable → Units → Fonts → Type 0
AreFontsIn l u fonts = (k : FontKey) → IsFontIn l u k (fonts k)

abbrev pub LibrariesHaveFonts : Type 0
LibrariesHaveFonts =
    (l : library.FileTable) (u : Units) → AreByteFiles l → (fonts : Fonts) × AreFontsIn l u fonts

-- members that are followed over a library are the first of the page's list, and what is left of
-- the course is the rest of it
abbrev pub MembersAreTheList : Type 0
MembersAreTheList =
    (l : library.FileTable) (u : Units) (tolerant : Bool) (fonts : Fonts) (reading : Reading)
    (i : ℕ) (members : List Member) (to : Course) → AreFontsIn l u fonts
    → Unfolds (IsFontIn l u) (course_of tolerant reading i) members to
    → list_of tolerant fonts reading i ≡ list_after members (list_from fonts to)

-- so the look-ups of a page that was broken off are the first of the page's look-ups
abbrev pub LooksAreThePages : Type 0
LooksAreThePages =
    (l : library.FileTable) (u : Units) (tolerant : Bool) (fonts : Fonts) (reading : Reading)
    (i : ℕ) (members : List Member) (to : Course) → AreFontsIn l u fonts
    → Unfolds (IsFontIn l u) (course_of tolerant reading i) members to
    → looks_of (list_of tolerant fonts reading i).members ≡ looks_of members ++ looks_of
    (list_from fonts to).members

-- and a page can be followed to the end of its list
abbrev pub ListsAreFollowed : Type 0
ListsAreFollowed =
    (l : library.FileTable) (u : Units) (tolerant : Bool) (fonts : Fonts) (reading : Reading)
    (i : ℕ)
    → AreFontsIn l u fonts
    → (to : Course) × Unfolds (IsFontIn l u) (course_of tolerant reading i)
    (list_of tolerant fonts reading i).members to
    × (list_from fonts to ≡ no_more (list_of tolerant fonts reading i).ending)

-- ---- worked pages

-- font 7, the character 65 set and put, a motion, font 7 again, and the character once more; each
-- with its position, and Eop at 68
abbrev pub worked : List Placed
worked =
    placed 60 (Font (pos 7)) (178 ∷ []) ∷ placed 61 (Set (pos 65))
    (65 ∷ []) ∷ placed 62 (Put (pos 65)) (133 ∷ 65 ∷ []) ∷ placed 64 (Right (pos 9))
    (143 ∷ 9 ∷ [])
    ∷ placed 66 (Font (pos 7)) (178 ∷ []) ∷ placed 67 (Set (pos 65)) (65 ∷ []) ∷ []

-- it looks its font up twice, and gives a flat command for each command; where five may be given it
-- is too long at the second look-up
pub record IsWorked (tolerant : Bool) (fonts : Fonts) (reading : Reading) (k : FontKey) (g : Glyph)
    : Type 0 where
  pub whole : full_list tolerant fonts reading 68 NoFont worked ≡ record {
    members = Flat flat.Skip None 60 ∷ LookUp k 61 ∷ Flat (flat.Char k 65 (pos 8) false)
        (Some g) 61 ∷ Flat (flat.Char k 65 (pos 8) true) (Some g) 62
        ∷ Flat (flat.Right (pos 9) (pos (k.size / 6))) None 64 ∷ Flat flat.Skip None 66
        ∷ LookUp k 67
        ∷ Flat (flat.Char k 65 (pos 8) false) (Some g) 67 ∷ [];
    ending = AtEnd 68;
  }
  pub cut : up_to_limit 5 (full_list tolerant fonts reading 68 NoFont worked).members
      (full_list tolerant fonts reading 68 NoFont worked).ending ≡ record {
        members = Flat flat.Skip None 60 ∷ LookUp k 61 ∷ Flat (flat.Char k 65 (pos 8) false)
            (Some g) 61 ∷ Flat (flat.Char k 65 (pos 8) true) (Some g) 62
            ∷ Flat (flat.Right (pos 9) (pos (k.size / 6))) None 64 ∷ Flat flat.Skip None 66 ∷ [];
        ending = AtFault TooLong 67;
      }

-- where font 7 has the key k, whose font has a width of 8 and a glyph for 65
abbrev pub ThePageIsWorked : Type 0
ThePageIsWorked =
    (tolerant : Bool) (fonts : Fonts) (reading : Reading) (k : FontKey) (f : FontValue) (g : Glyph)
    → font_table reading (pos 7) ≡ Some k → fonts k ≡ decoded.Font f
    → scaled_width_of f (pos 65) ≡ Some (pos 8) → glyph_at f 65 ≡ Some g
    → IsWorked tolerant fonts reading k g

-- ---- virtual characters

-- a font with these local fonts and this packet of the character 65, which is so wide
pub record HasPacket (f : FontValue) (wide : ℤ) (text : List ℕ) (local : FontKey) : Type 0 where
  pub virtual : is_virtual_of f ≡ true
  pub width : scaled_width_of f (pos 65) ≡ Some wide
  pub packet : packet_of f 65 ≡ Some text
  pub first : first_local_of f ≡ Some (pos 0)
  pub key : local_of f (pos 0) ≡ Some local

-- font 0, the character 65 set and put, and a motion; Eop at 85
abbrev pub characters : List Placed
characters =
    placed 80 (Font (pos 0)) (171 ∷ []) ∷ placed 81 (Set (pos 65))
    (65 ∷ []) ∷ placed 82 (Put (pos 65)) (133 ∷ 65 ∷ []) ∷ placed 83 (Right (pos 9))
    (143 ∷ 9 ∷ []) ∷ []

-- its packet: the character 65 of the first local font; motions right by factors of -1/2^20 and of
-- a half of the font's size; a rule whose height is a quarter of that size, and whose width is
-- three eighths of it; the character 65 of the local font 1; a push and a pop
abbrev pub a_packet : List ℕ
a_packet =
    65 ∷ 143 ∷ 255 ∷ 146 ∷ 0 ∷ 8 ∷ 0 ∷ 0 ∷ 132 ∷ 0 ∷ 4 ∷ 0 ∷ 0 ∷ 0 ∷ 6 ∷ 0 ∷ 0
    ∷ 172 ∷ 65 ∷ 141 ∷ 142 ∷ []

-- a packed font of a key, whose character 65 is so wide and has this glyph
pub record HasGlyph (fonts : Fonts) (k : FontKey) (f : FontValue) (wide : ℤ) (g : Glyph)
    : Type 0 where
  pub found : fonts k ≡ decoded.Font f
  pub width : scaled_width_of f (pos 65) ≡ Some wide
  pub glyph : glyph_at f 65 ≡ Some g

-- what the packet gives at a size of 128, at a position: each local font is looked up once, and the
-- first motion is rounded down. The space is a sixth of the local font's size
abbrev pub packet_members : FontKey → Glyph → FontKey → Glyph → ℕ → List Member
packet_members local g other h at =
    Flat flat.Enter None at ∷ LookUp local at ∷ Flat (flat.Char local 65 (pos 3) false)
    (Some g) at ∷ Flat (flat.Right (negsuc 0) (pos (local.size / 6))) None at
    ∷ Flat (flat.Right (pos 64) (pos (local.size / 6))) None at
    ∷ Flat (flat.Rule (pos 32) (pos 48) false) None at ∷ Flat flat.Skip None at
    ∷ LookUp other at ∷ Flat (flat.Char other 65 (pos 5) false) (Some h) at
    ∷ Flat flat.Push None at ∷ Flat flat.Pop None at ∷ Flat flat.Leave None at ∷ []

-- the page's font is looked up once, and is current again after each packet; the character that is
-- set moves by its own width after it
abbrev pub ThePacketIsWorked : Type 0
ThePacketIsWorked =
    (tolerant : Bool) (fonts : Fonts) (reading : Reading) (k local other : FontKey)
    (f l m : FontValue) (g h : Glyph)
    → font_table reading (pos 0) ≡ Some k → f.size ≡ 128
    → fonts k ≡ decoded.Font f → HasPacket f (pos 6) a_packet local
    → local_of f (pos 1) ≡ Some other → HasGlyph fonts local l (pos 3) g
    → HasGlyph fonts other m (pos 5) h
    → full_list tolerant fonts reading 85 NoFont characters ≡ record {
      members = (Flat flat.Skip None 80 ∷ LookUp k 81 ∷ packet_members local g other h 81)
          ++ (Flat (flat.Advance (pos 6)) None 81 ∷ packet_members local g other h 82)
          ++ (Flat (flat.Right (pos 9) (pos (k.size / 6))) None 83 ∷ []);
      ending = AtEnd 85;
    }

-- n packets, each inside the one before it, look their font up and begin
abbrev pub nested_entries : FontKey → ℕ → ℕ → List Member
nested_entries k at zero = []
nested_entries k at (suc n) = LookUp k at ∷ Flat flat.Enter None at ∷ nested_entries k at n

-- a font whose character sets itself: ten packets are nested, and the next one is too deep
abbrev pub LoopsAreTooDeep : Type 0
LoopsAreTooDeep =
    (tolerant : Bool) (fonts : Fonts) (reading : Reading) (k : FontKey) (f : FontValue)
    → font_table reading (pos 0) ≡ Some k
    → fonts k ≡ decoded.Font f → HasPacket f (pos 8) (65 ∷ []) k
    → full_list tolerant fonts reading 85 NoFont characters ≡ record {
      members = Flat flat.Skip None 80 ∷ nested_entries k 81 10 ++ (LookUp k 81 ∷ []);
      ending = AtFault (Depth k (pos 65)) 81;
    }
