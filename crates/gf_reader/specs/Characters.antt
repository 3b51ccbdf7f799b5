-- Characters, their sides and their glyphs: Knuth, GFtype, "Generic font file format", the commands
-- boc and boc1.
use Rattle.std.specs.Prelude.{ℕ, ◌+◌, ◌*◌, ℤ, pos, negsuc, ◌-ℤ◌, ◌+ℤ◌, neg_ℤ, Bool, List, [], ◌∷◌, ◌==◌, if◌then◌else◌, Option, Some, None}
use Rattle.std.specs.Int.{div_ceil}
use Rattle.big_endian.specs.Fields.{signed_at, unsigned_at}
use Rattle.big_endian.specs.Numbers.{int_eq}
use Rattle.packed_rows.specs.Bitmap.{Bitmap, from_fn}
use Rattle.pk_runs.specs.declared.glyph.Glyph.{Glyph}
use Rattle.gf_reader.specs.Items.{begins_character, is_open, opcode}
use Rattle.gf_reader.specs.Commands.{is_painted}

-- ---- the fields of boc, and of boc1 with its bytes

abbrev pub is_long : List ℕ → Bool
is_long head = opcode head == 67

abbrev pub code_of : List ℕ → ℤ
code_of head = if is_long head then signed_at head 1 4 else pos (unsigned_at head 1 1)

abbrev pub max_m : List ℕ → ℤ
max_m head = if is_long head then signed_at head 13 4 else pos (unsigned_at head 3 1)

abbrev pub min_m : List ℕ → ℤ
min_m head =
    if is_long head then signed_at head 9 4
    else pos (unsigned_at head 3 1) -ℤ pos (unsigned_at head 2 1)

abbrev pub max_n : List ℕ → ℤ
max_n head = if is_long head then signed_at head 21 4 else pos (unsigned_at head 5 1)

abbrev pub min_n : List ℕ → ℤ
min_n head =
    if is_long head then signed_at head 17 4
    else pos (unsigned_at head 5 1) -ℤ pos (unsigned_at head 4 1)

-- ---- the sides

-- a number, or 0 where it is negative
abbrev pub positive_part : ℤ → ℕ
positive_part (pos n) = n
positive_part (negsuc n) = 0

-- how many numbers lie from the least to the greatest, both among them
abbrev pub extent : ℤ → ℤ → ℕ
extent least greatest = positive_part (greatest -ℤ least +ℤ pos 1)

abbrev pub columns_of : List ℕ → ℕ
columns_of head = extent (min_m head) (max_m head)

abbrev pub rows_of : List ℕ → ℕ
rows_of head = extent (min_n head) (max_n head)

-- those of the raster, which has none at all where it would have no rows or no columns
abbrev pub raster_side : ℕ → ℕ → ℕ
raster_side other side = if other == 0 then 0 else side

abbrev pub width_of : List ℕ → ℕ
width_of head = raster_side (rows_of head) (columns_of head)

abbrev pub height_of : List ℕ → ℕ
height_of head = raster_side (columns_of head) (rows_of head)

-- the bytes that the raster takes, each row in whole bytes
abbrev pub raster_size : List ℕ → ℕ
raster_size head = height_of head * div_ceil (width_of head) 8

-- ---- characters

-- the item that begins it, and its commands, the last one first
pub record Character : Type 0 where
  pub head : List ℕ
  pub commands : List (List ℕ)

abbrev pub with_command : List ℕ → List Character → List Character
with_command item [] = []
with_command item (ch ∷ earlier) =
    record { head = ch.head; commands = item ∷ ch.commands } ∷ earlier

-- the characters of items, the last one first
abbrev pub characters_of : List (List ℕ) → List Character
characters_of [] = []
characters_of (item ∷ before) =
    if begins_character (opcode item)
    then record { head = item; commands = [] } ∷ characters_of before
    else if is_open before then with_command item (characters_of before)
    else characters_of before

-- the bytes of all rasters, also of characters that a later one replaces
abbrev pub raster_sum : List (List ℕ) → ℕ
raster_sum [] = 0
raster_sum (item ∷ before) =
    raster_sum before + (if begins_character (opcode item) then raster_size item else 0)

-- ---- glyphs

-- a pixel is black exactly where some paint of the character covers it in black
abbrev pub raster_of : Character → Bitmap
raster_of ch =
    record {
      width = width_of ch.head;
      height = height_of ch.head;
      rows = from_fn (height_of ch.head) (λ y. from_fn (width_of ch.head)
          (λ x. is_painted ch.commands x y));
    }

abbrev pub glyph_of_character : Character → Glyph
glyph_of_character ch =
    record { raster = raster_of ch; hoff = neg_ℤ (min_m ch.head); voff = max_n ch.head }

-- the glyph of a code: that of the last character with it
abbrev pub glyph_for : List Character → ℕ → Option Glyph
glyph_for [] c = None
glyph_for (ch ∷ earlier) c =
    if int_eq (code_of ch.head) (pos c) then Some (glyph_of_character ch) else glyph_for earlier c
