-- What is true of the names of files, and of what is found.
use Rattle.std.specs.Prelude.{◌≡◌, ◌≢◌, ◌↔◌, ℕ, List, length, take, ◌<◌, ◌≤◌, Some, IsTrue, IfSome, All, AllPairs, slice_index}
use Rattle.std.specs.FinMap.{get}
use Rattle.big_endian.specs.Numbers.{AreBytes}
use Rattle.std.specs.List.{list_all}
use Rattle.outside.specs.Library as library
use Rattle.outside.specs.Library.{Asks}
use Rattle.outside.specs.declared.keys.FontKey.{FontKey}
use Rattle.pixel_round.specs.declared.units.Units.{Units}
use Rattle.dvi_commands.specs.Reading.{commands_of}
use Rattle.vf_reader.specs.Balance.{IsBalanced}
use Rattle.font_decode.specs.Names.{is_name_byte, is_valid_name, is_resolution, dpi, file_names}
use Rattle.font_decode.specs.Files.{FontFiles, IsFound, looked_for}
use Rattle.font_decode.specs.Asked.{choices}
use Rattle.font_decode.specs.Loads.{MAX_LOADS}
use Rattle.font_decode.specs.Rows.{IsFirstRow}
use Rattle.font_decode.specs.Fonts.{FontValue, packet_of}
use Rattle.font_decode.specs.Decoding.{IsDecodingOf, IsFontIn, AreAlike}
use Rattle.font_decode.specs.declared.font_or_fault.Decoded.{Decoded}
use Rattle.font_decode.specs.declared.font_or_fault.Decoded.TheVariants.{Font}

-- a name that leads out of no folder: neither empty nor `.` nor `..`, and with no `/`
pub record StaysInFolder (name : List ℕ) : Type 0 where
  pub some : 0 < length name
  pub no_leading_dot : slice_index name 0 ≢ 46
  pub no_slash : All (λ b. b ≢ 47) name
  pub plain : IsTrue (list_all is_name_byte name)

-- the names of a font with a valid name lead out of no folder, at whatever resolution
abbrev pub NamesStayInFolder : Type 0
NamesStayInFolder =
    (u : Units) (k : FontKey) → IsTrue (is_valid_name k) → All StaysInFolder (file_names u k)

-- and so whatever names a fetch asks for, up to any stop: where all that were asked for before it
-- stay in their folder, so do all after it
abbrev pub AskedNamesStayInFolder : Type 0
AskedNamesStayInFolder =
    (u : Units) (k : FontKey) (count : ℕ) (before after : List (List ℕ))
    → Asks (Some before) (Some after) (take count (choices u k))
    → All StaysInFolder before → All StaysInFolder after

-- no two files of a font have the same name
abbrev pub NamesAreDistinct : Type 0
NamesAreDistinct =
    (u : Units) (k : FontKey) → IsTrue (is_resolution (dpi u k))
    → AllPairs (λ a b. a ≢ b) (file_names u k)

-- a library has one answer
abbrev pub OneIsFound : Type 0
OneIsFound = (l : library.FileTable) (u : Units) (k : FontKey) (f g : FontFiles) → IsFound l u k f
    → IsFound l u k g → f ≡ g

-- and looks for few names
abbrev pub FewAreLookedFor : Type 0
FewAreLookedFor =
    (l : library.FileTable) (u : Units) (k : FontKey) → length (looked_for l u k) ≤ MAX_LOADS

-- files come to one font, or have one first fault
abbrev pub OneOfItsFiles : Type 0
OneOfItsFiles =
    (u : Units) (k : FontKey) (files : FontFiles) (d e : Decoded) → IsDecodingOf u k files d
    → IsDecodingOf u k files e → AreAlike d e

-- and so does a key in a library
abbrev pub OneInALibrary : Type 0
OneInALibrary =
    (l : library.FileTable) (u : Units) (k : FontKey) (d e : Decoded) → IsFontIn l u k d
    → IsFontIn l u k e → AreAlike d e

-- every file of a library has bytes
abbrev pub AreByteFiles : library.FileTable → Type 0
AreByteFiles l = (name : List ℕ) → IfSome (get l name) AreBytes

-- each key has a decoding in a library
abbrev pub EachKeyIsDecoded : Type 0
EachKeyIsDecoded =
    (l : library.FileTable) (u : Units) (k : FontKey) → AreByteFiles l
    → (d : Decoded) × IsFontIn l u k d

-- the decoding of files is determined by one list of rows: the fault of the first row that holds,
-- or the bare font in place of the fault that no file of glyphs is there, and where none holds the
-- font
abbrev pub RowsDetermineTheDecoding : Type 0
RowsDetermineTheDecoding =
    (u : Units) (k : FontKey) (files : FontFiles) (d : Decoded)
    → IsDecodingOf u k files d ↔ IsFirstRow u k files d

-- in each packet of a font, whatever its files, every pop has its push before it, and every push
-- its pop
abbrev pub PacketsAreBalanced : Type 0
PacketsAreBalanced =
    (u : Units) (k : FontKey) (files : FontFiles) (f : FontValue) (c : ℕ) (packet : List ℕ)
    → IsDecodingOf u k files (Font f) → packet_of f c ≡ Some packet
    → IsBalanced (commands_of packet)
