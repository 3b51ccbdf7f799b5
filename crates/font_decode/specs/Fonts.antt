-- What a contract sees of a font that was read: Knuth, DVItype, "Reading the font information", for
-- the widths; Rokicki, PKtype, "Packed file format", for the glyphs of a packed font; and Knuth,
-- VFtoVP, "Virtual fonts", for the packets and the local fonts of a virtual one.
use Rattle.std.specs.Prelude.{ℕ, ◌^◌, ◌<◌, ◌≤◌, ℤ, unsigned_abs, Bool, true, false, List, length, slice_get, Option, None, IfSome, IsSome, All}
use Rattle.std.specs.Map.{lookup}
use Rattle.std.specs.Option.{option_map}
use Rattle.std.specs.Ordering.{int_cmp, is_eq}
use Rattle.dvi_commands.specs.Spelling.{DviCommand}
use Rattle.outside.specs.declared.keys.FontKey.{FontKey}
use Rattle.outside.specs.FontKeys.{IsFontKey}
use Rattle.tfm_reader.specs.Tfm as tfm
use Rattle.pk_runs.specs.declared.glyph.Glyph.{Glyph}
use Rattle.pk_runs.specs.Glyphs.{glyph_of}
use Rattle.vf_reader.specs.Fonts as vf
use Rattle.vf_reader.specs.Programs.{AreCommandsOf}
use Rattle.outside.specs.Limits.{SIZES}
use Rattle.font_decode.specs.declared.shapes.Shapes.{Shapes}
use Rattle.font_decode.specs.declared.shapes.Shapes.TheVariants.{Packed, Generic, Bare, Virtual}

-- the size and the widths in DVI units, these of the codes from 0 on, and what its characters are:
-- glyphs in dots, none of them, or the packets of a VF file beside the keys of its local fonts by
-- their numbers
pub record FontValue : Type 0 where
  pub size : ℕ
  pub widths : List (Option ℤ)
  pub shapes : Shapes

-- the width of a code
abbrev pub scaled_width_of : FontValue → ℤ → Option ℤ
scaled_width_of f c = tfm.width_of f.widths c

-- ---- what its characters are

abbrev pub is_virtual_shape : Shapes → Bool
is_virtual_shape (Packed glyphs) = false
is_virtual_shape (Generic glyphs) = false
is_virtual_shape Bare = false
is_virtual_shape (Virtual file keys) = true

-- its characters are packets
abbrev pub is_virtual_of : FontValue → Bool
is_virtual_of f = is_virtual_shape f.shapes

abbrev pub glyph_in : Shapes → ℕ → Option Glyph
glyph_in (Packed glyphs) c = glyph_of glyphs c
glyph_in (Generic glyphs) c = glyph_of glyphs c
glyph_in Bare c = None
glyph_in (Virtual file keys) c = None

-- the glyph of a code; a bare font and a virtual one have none
abbrev pub glyph_at : FontValue → ℕ → Option Glyph
glyph_at f c = glyph_in f.shapes c

abbrev pub packet_in : Shapes → ℕ → Option (List ℕ)
packet_in (Packed glyphs) c = None
packet_in (Generic glyphs) c = None
packet_in Bare c = None
packet_in (Virtual file keys) c = vf.packet_of file c

-- the bytes of the packet of a code; only a virtual font has one
abbrev pub packet_of : FontValue → ℕ → Option (List ℕ)
packet_of f c = packet_in f.shapes c

-- ---- its local fonts

-- the key that stands beside a number
abbrev pub key_with : List (ℤ × FontKey) → ℤ → Option FontKey
key_with keys k = lookup (λ n. is_eq (int_cmp k n)) keys

abbrev pub local_in : Shapes → ℤ → Option FontKey
local_in (Packed glyphs) k = None
local_in (Generic glyphs) k = None
local_in Bare k = None
local_in (Virtual file keys) k = key_with keys k

-- the key of the local font with a number; only a virtual font has one
abbrev pub local_of : FontValue → ℤ → Option FontKey
local_of f k = local_in f.shapes k

abbrev pub first_in : Shapes → Option ℤ
first_in (Packed glyphs) = None
first_in (Generic glyphs) = None
first_in Bare = None
first_in (Virtual file keys) = option_map (λ local. local.number) (slice_get file.locals 0)

-- the number of the first local font of the file
abbrev pub first_local_of : FontValue → Option ℤ
first_local_of f = first_in f.shapes

-- ---- what holds of every font

-- a width at a size below 2^27
abbrev pub IsWidth : ℤ → Type 0
IsWidth w = unsigned_abs w ≤ 2 ^ 31

abbrev pub AreWidths : List (Option ℤ) → Type 0
AreWidths widths = All (λ w. IfSome w IsWidth) widths

-- the bytes of a code's packet are whole commands, each of which may stand there, with dimensions
-- in range and a pop for each push
abbrev pub IsProgram : ℕ → List ℕ → Type 0
IsProgram c bytes = (commands : List DviCommand) × AreCommandsOf c bytes commands

-- the packets are programs, the local fonts' keys have sizes in range, and the first local font has
-- a key
pub record AreShapes (shapes : Shapes) : Type 0 where
  pub packets : (c : ℕ) → IfSome (packet_in shapes c) (IsProgram c)
  pub locals : (k : ℤ) → IfSome (local_in shapes k) IsFontKey
  pub first : IfSome (first_in shapes) (λ k. IsSome (local_in shapes k))

-- no character has a code above 255
pub record IsFontValue (f : FontValue) : Type 0 where
  pub some : 1 ≤ f.size
  pub fits : f.size < SIZES
  pub codes : length f.widths ≤ 256
  pub widths : AreWidths f.widths
  pub shapes : AreShapes f.shapes
