-- The PK file of given glyphs, whose rasters are coded in one way: Rokicki, PKtype, "Packed file
-- format".
use Rattle.std.specs.Prelude.{◌≡◌, ℕ, ◌+◌, ◌-◌, ◌*◌, ◌%◌, ◌^◌, ◌<◌, ◌≤◌, ℤ, pos, negsuc, Bool, true, false, not, ◌&&◌, ◌==◌, List, [], ◌∷◌, ◌++◌, length, nat_lt, replicate, if◌then◌else◌, Option, Some, None}
use Rattle.std.specs.Int.{div_ceil}
use Rattle.std.specs.List.{flat_map, list_any}
use Rattle.big_endian.specs.Numbers.{IsSigned, number_bytes}
use Rattle.packed_rows.specs.Bitmap.{IsShaped}
use Rattle.pk_runs.specs.declared.glyph.Glyph.{Glyph}
use Rattle.pk_packets.specs.Written.{Fields, Fit, extended_packet, long_packet, short_packet}
use Rattle.pk_runs.specs.Limits.{MAX_GLYPH_SIDE}
use Rattle.sample_maker.specs.Coded.{Coded, StandsFor, coded}
use Rattle.sample_maker.specs.declared.coded.Coding.{Coding}
use Rattle.sample_maker.specs.declared.coded.Coding.TheVariants as coding

-- ---- what is given: glyphs, each with its code

-- no two glyphs have one code
abbrev pub have_own_codes : List (ℕ × Glyph) → Bool
have_own_codes [] = true
have_own_codes (p ∷ glyphs) = not (list_any (λ q. q.0 == p.0) glyphs) && have_own_codes glyphs

-- the bytes that the rasters take in a reader, each row in whole bytes
abbrev pub size_sum : List (ℕ × Glyph) → ℕ
size_sum [] = 0
size_sum (p ∷ glyphs) = p.1.raster.height * div_ceil p.1.raster.width 8 + size_sum glyphs

-- the glyph of a code, where one is given
abbrev pub glyph_given : List (ℕ × Glyph) → ℕ → Option Glyph
glyph_given [] c = None
glyph_given (p ∷ glyphs) c = if p.0 == c then Some p.1 else glyph_given glyphs c

-- what the types of a glyph and of a code hold
pub record IsBounded (g : Glyph) : Type 0 where
  pub width : g.raster.width ≤ MAX_GLYPH_SIDE
  pub height : g.raster.height ≤ MAX_GLYPH_SIDE
  pub shaped : IsShaped g.raster
  pub hoff : IsSigned 4 g.hoff
  pub voff : IsSigned 4 g.voff

pub record IsMeasured (way : Coding) (p : ℕ × Glyph) : Type 0 where
  pub code : p.0 < 256
  pub glyph : IsBounded p.1
  pub raster : StandsFor (coded way p.1.raster) p.1.raster

-- ---- a packet

-- the width and the escapements are e zero bytes
abbrev pub fields : ℕ → Coded → ℕ × Glyph → Fields
fields e r p = record {
  code = p.0;
  dyn_f = r.dyn_f;
  first_black = r.first_black;
  escapements = replicate e 0;
  width = p.1.raster.width;
  height = p.1.raster.height;
  hoff = p.1.hoff;
  voff = p.1.voff;
  raster = r.bytes;
}

-- the sides and the offsets, n bytes each
abbrev pub sides : ℕ → Glyph → List ℕ
sides n g =
    number_bytes n (pos g.raster.width)
    ++ (number_bytes n (pos g.raster.height) ++ (number_bytes n g.hoff ++ number_bytes n g.voff))

-- n bytes hold the number in two's complement
abbrev pub is_signed : ℕ → ℤ → Bool
is_signed n (pos m) = nat_lt (2 * m) (256 ^ n)
is_signed n (negsuc m) = nat_lt (2 * m) (256 ^ n)

-- a form holds the numbers of a glyph: n bytes for each side and offset, and a length, of `fixed`
-- bytes and the raster, below `most`
abbrev pub has_form : ℕ → ℕ → ℕ → Coded → Glyph → Bool
has_form n fixed most r g =
    nat_lt g.raster.width (256 ^ n) && nat_lt g.raster.height (256 ^ n)
    && is_signed n g.hoff && is_signed n g.voff && nat_lt (fixed + length r.bytes) most

-- the first of the three forms that does
unfoldable pub packet_with : Coded → ℕ × Glyph → List ℕ
packet_with r p =
    if has_form 1 8 1024 r p.1 then short_packet (fields 4 r p)
    else if has_form 2 13 196608 r p.1 then extended_packet (fields 5 r p)
    else long_packet (fields 12 r p)

abbrev pub packet_item : Coding → ℕ × Glyph → List ℕ
packet_item way p = packet_with (coded way p.1.raster) p

-- ---- the file

-- no comment, a design size of ten points, the checksum 0, and 300 dots an inch either way
abbrev pub pk_preamble : List ℕ
pk_preamble =
    0xf7 ∷ 0x59 ∷ 0 ∷ 0 ∷ 0xa0 ∷ 0 ∷ 0 ∷ 0 ∷ 0 ∷ 0 ∷ 0 ∷ 0
    ∷ 0x04 ∷ 0x26 ∷ 0xae ∷ 0 ∷ 0x04 ∷ 0x26 ∷ 0xae ∷ []

unfoldable pub pk_items : Coding → List (ℕ × Glyph) → List ℕ
pk_items way glyphs = pk_preamble ++ flat_map (packet_item way) glyphs

-- n no-ops after the closing command, before which n bytes stand, make a multiple of four
abbrev pub no_ops_after : ℕ → ℕ
no_ops_after n = (4 - (n + 1) % 4) % 4

unfoldable pub file_in : Coding → List (ℕ × Glyph) → List ℕ
file_in way glyphs =
    let items = pk_items way glyphs in
    items ++ 245 ∷ replicate (no_ops_after (length items)) 246

-- each raster a plain bitmap, and each packed
abbrev pub pk_file : List (ℕ × Glyph) → List ℕ
pk_file glyphs = file_in coding.Plain glyphs

abbrev pub packed_file : List (ℕ × Glyph) → List ℕ
packed_file glyphs = file_in coding.Packed glyphs

-- ---- laws

-- a packet has the short form where that holds its numbers, else the extended form where that does,
-- else the long one
abbrev pub PacketsHaveTheFirstForm : Type 0
PacketsHaveTheFirstForm = (r : Coded) (p : ℕ × Glyph) → r.dyn_f ≤ 14 → p.0 < 256
    → (Fit (fields 4 r p) 1 4 1 1024 → short_packet (fields 4 r p) ≡ packet_with r p)
    × ((Fit (fields 4 r p) 1 4 1 1024 → ⊥) → Fit (fields 5 r p) 1 5 2 196608
    → extended_packet (fields 5 r p) ≡ packet_with r p)
    × ((Fit (fields 4 r p) 1 4 1 1024 → ⊥) → (Fit (fields 5 r p) 1 5 2 196608 → ⊥)
    → long_packet (fields 12 r p) ≡ packet_with r p)

-- a file has a multiple of four bytes
abbrev pub FilesAreMultiplesOfFour : Type 0
FilesAreMultiplesOfFour =
    (way : Coding) (glyphs : List (ℕ × Glyph)) → length (file_in way glyphs) % 4 ≡ 0
