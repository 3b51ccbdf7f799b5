-- A PK file and its glyphs: Rokicki, PKtype, "Packed file format".
use Rattle.std.specs.Prelude.{◌≡◌, ℕ, ◌++◌, ◌&&◌, List, [], ◌∷◌, drop, ◌==◌, if◌then◌else◌, Option, Some, None, IsTrue}
use Rattle.packed_rows.specs.Bitmap.{Bitmap}
use Rattle.pk_runs.specs.Raster.{IsRaster}
use Rattle.pk_runs.specs.declared.glyph.Glyph.{Glyph}
pub use Rattle.pk_runs.specs.Glyphs.{Glyphs, glyph_of}
use Rattle.pk_packets.specs.Preamble.{preamble_fault, preamble_size}
use Rattle.pk_packets.specs.Items.{IsItem, is_packet, text_of}
use Rattle.pk_packets.specs.Packets.{code_of, dyn_f_of, raster_height, hoff_of, is_first_black, packet_fault, raster_of, voff_of, raster_width}

-- ---- the file

-- the raster that a packet's bytes stand for
abbrev pub HasRaster : List ℕ → Bitmap → Type 0
HasRaster bytes raster =
    IsRaster (raster_of bytes) (dyn_f_of bytes) (is_first_black bytes) (raster_width bytes)
    (raster_height bytes) raster

-- nothing is wrong with a packet after these items
abbrev pub IsPacketSound : List (List ℕ) → List ℕ → Type 0
IsPacketSound before bytes =
    (packet_fault before bytes ≡ None) × (raster : Bitmap) × HasRaster bytes raster

-- each item is whole, and each packet among them sound
abbrev pub AreSound : List (List ℕ) → Type 0
AreSound [] = Unit {0}
AreSound (item ∷ before) =
    AreSound before × IsItem item × (IsTrue (is_packet item) → IsPacketSound before item)

-- the bytes are a PK file with these items; what stands after the closing command isn't looked at
pub record IsPkFile (bytes : List ℕ) (items : List (List ℕ)) : Type 0 where
  pub begins : preamble_fault bytes ≡ None
  pub sound : AreSound items
  pub unused : List ℕ
  pub whole : drop (preamble_size bytes) bytes ≡ text_of items ++ 245 ∷ unused

-- ---- its glyphs

-- the last packet of a code
abbrev pub packet_with : List (List ℕ) → ℕ → Option (List ℕ)
packet_with [] c = None
packet_with (item ∷ before) c =
    if is_packet item && code_of item == c then Some item else packet_with before c

pub record IsGlyphOf (bytes : List ℕ) (g : Glyph) : Type 0 where
  pub raster : HasRaster bytes g.raster
  pub hoff : g.hoff ≡ hoff_of bytes
  pub voff : g.voff ≡ voff_of bytes

-- the glyph of a packet, or none without a packet
abbrev pub IsGlyphFor : Option (List ℕ) → Option Glyph → Type 0
IsGlyphFor None answer = answer ≡ None
IsGlyphFor (Some packet) answer = (g : Glyph) × (answer ≡ Some g) × IsGlyphOf packet g

-- the answer for a code: the glyph of the last packet that has it
abbrev pub IsAnswer : List (List ℕ) → ℕ → Option Glyph → Type 0
IsAnswer items c answer = IsGlyphFor (packet_with items c) answer

-- ---- what is kept of it

-- each code's glyph is that of its last packet
abbrev pub HasGlyphsOf : List (List ℕ) → Glyphs → Type 0
HasGlyphsOf items font = (c : ℕ) → IsAnswer items c (glyph_of font c)
