-- What was read and drawn so far.
use Rattle.std.specs.Prelude.{◌≡◌, ℕ, ◌≤◌, min, List, ◌∷◌, ◌++◌, drop, Option, Some, None, neg_ℤ, IsTrue, IsFalse, true}
use Rattle.pk_runs.specs.Limits.{MAX_GLYPH_SIDE}
use Rattle.gf_reader.specs.Preamble.{preamble_fault, preamble_size}
use Rattle.gf_reader.specs.Items.{IsItem, is_open, opcode, text_of}
use Rattle.gf_reader.specs.Commands.{column_after, is_black_after, row_after}
use Rattle.gf_reader.specs.Characters.{Character, characters_of, code_of, height_of, max_m, max_n, min_m, min_n, raster_of, raster_sum, width_of}
use Rattle.gf_reader.specs.Fonts.{AreSound, Glyphs, HasGlyphsOf}
use Rattle.gf_reader.specs.declared.drawing.Drawing.{Drawing}
use Rattle.gf_reader.specs.declared.head.Head.{Head}

-- the fields are those of the item that begins a character
pub record IsHeadOf (h : Head) (item : List ℕ) : Type 0 where
  pub code : h.code ≡ code_of item
  pub min_m : h.min_m ≡ min_m item
  pub max_m : h.max_m ≡ max_m item
  pub min_n : h.min_n ≡ min_n item
  pub max_n : h.max_n ≡ max_n item

-- the commands of a character are carried out. The place of the next paint is kept within the
-- raster: beyond its end each paint of black is outside, wherever it is
pub record IsDrawn (ch : Character) (d : Drawing) : Type 0 where
  pub code : d.code ≡ code_of ch.head
  pub hoff : d.hoff ≡ neg_ℤ (min_m ch.head)
  pub voff : d.voff ≡ max_n ch.head
  pub bits : d.bits ≡ raster_of ch
  pub row : d.row ≡ min (row_after ch.commands) (height_of ch.head)
  pub column : d.column ≡ min (column_after ch.commands) (width_of ch.head)
  pub black : d.black ≡ is_black_after ch.commands
  pub narrow : width_of ch.head ≤ MAX_GLYPH_SIDE
  pub low : height_of ch.head ≤ MAX_GLYPH_SIDE

-- items were read, the font has the glyphs of the characters that have ended, and one that is open
-- is drawn as far as its commands go
abbrev pub IsRead : List (List ℕ) → Glyphs → Option Drawing → Type 0
IsRead items font None = IsFalse (is_open items) × HasGlyphsOf (characters_of items) font
IsRead items font (Some d) =
    IsTrue (is_open items) × (ch : Character) × (earlier : List Character)
    × (characters_of items ≡ ch ∷ earlier) × IsDrawn ch d × HasGlyphsOf earlier font

-- items of the bytes were read up to those that are left; their rasters take a sum
pub record IsReadTo (bytes rest : List ℕ) (sum : ℕ) (font : Glyphs) (drawn : Option Drawing)
    : Type 0 where
  pub items : List (List ℕ)
  pub begins : preamble_fault bytes ≡ None
  pub sound : AreSound items
  pub text : drop (preamble_size bytes) bytes ≡ text_of items ++ rest
  pub sum_is : sum ≡ raster_sum items
  pub read : IsRead items font drawn

-- where bytes were read up to some, with a character that is drawn, they were up to others, with
-- more of it
abbrev pub Reads : List ℕ → Drawing → List ℕ → Drawing → Type 0
Reads rest d later e =
    (bytes : List ℕ) (sum : ℕ) (font : Glyphs) → IsReadTo bytes rest sum font (Some d)
    → IsReadTo bytes later sum font (Some e)

-- bytes were read up to the end of a character, and what is left follows it
abbrev pub IsAtEnd : List ℕ → List ℕ → ℕ → Glyphs → Drawing → Type 0
IsAtEnd bytes rest sum font d =
    (item : List ℕ) × IsItem true item × (opcode item ≡ 69)
    × IsReadTo bytes (item ++ rest) sum font (Some d)
