-- A GF file and its glyphs: Knuth, GFtype, "Generic font file format".
use Rattle.std.specs.Prelude.{◌≡◌, ℕ, ◌++◌, List, [], ◌∷◌, drop, None, IsFalse}
pub use Rattle.pk_runs.specs.Glyphs.{Glyphs, glyph_of}
use Rattle.gf_reader.specs.Preamble.{preamble_fault, preamble_size}
use Rattle.gf_reader.specs.Items.{IsItem, is_open, text_of}
use Rattle.gf_reader.specs.Characters.{Character, characters_of, glyph_for}
use Rattle.gf_reader.specs.Faults.{fault_of_item}

-- ---- the file

-- each item is whole, stands where it may, and has no fault
abbrev pub AreSound : List (List ℕ) → Type 0
AreSound [] = Unit {0}
AreSound (item ∷ before) =
    AreSound before × IsItem (is_open before) item × (fault_of_item before item ≡ None)

-- the bytes are a GF file with these items; what stands after the closing command isn't looked at
pub record HasItems (bytes : List ℕ) (items : List (List ℕ)) : Type 0 where
  pub begins : preamble_fault bytes ≡ None
  pub sound : AreSound items
  pub closed : IsFalse (is_open items)
  pub unused : List ℕ
  pub whole : drop (preamble_size bytes) bytes ≡ text_of items ++ 248 ∷ unused

-- the bytes are a GF file with these characters, the last one first
pub record IsGfFile (bytes : List ℕ) (characters : List Character) : Type 0 where
  pub items : List (List ℕ)
  pub file : HasItems bytes items
  pub characters_are : characters ≡ characters_of items

-- ---- what is kept of it

-- each code's glyph is that of the last character with it
abbrev pub HasGlyphsOf : List Character → Glyphs → Type 0
HasGlyphsOf characters font = (c : ℕ) → glyph_of font c ≡ glyph_for characters c
