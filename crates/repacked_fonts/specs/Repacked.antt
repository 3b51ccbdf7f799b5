-- Libraries that differ only in how the rasters of their PK files are packed: Rokicki, PKtype,
-- "Packed file format".
use Rattle.std.specs.Prelude.{◌≡◌, ◌⊎◌, ℕ, List, Option, Some, None, IsFalse, codes}
use Rattle.std.specs.FinMap.{get}
use Rattle.outside.specs.Library.{FileTable}
use Rattle.outside.specs.declared.keys.FontKey.{FontKey}
use Rattle.pk_runs.specs.declared.glyph.Glyph.{Glyph}
use Rattle.pk_packets.specs.Fonts.{IsAnswer, IsPkFile}
use Rattle.font_decode.specs.Decoding.{is_too_long}
use Rattle.font_decode.specs.Names.{glyph_name, tfm_name, vf_name}

-- two PK files, none too long to be read, that have one answer for each code
pub record GiveTheSame (bytes other : List ℕ) : Type 0 where
  pub items : List (List ℕ)
  pub others : List (List ℕ)
  pub file : IsPkFile bytes items
  pub other_file : IsPkFile other others
  pub short : IsFalse (is_too_long bytes)
  pub other_short : IsFalse (is_too_long other)
  pub glyphs : (c : ℕ) → (answer : Option Glyph) × IsAnswer items c answer
      × IsAnswer others c answer

-- no file, one file, or two such files
abbrev pub IsRepacked : Option (List ℕ) → Option (List ℕ) → Type 0
IsRepacked None None = Unit {0}
IsRepacked None (Some other) = ⊥
IsRepacked (Some bytes) None = ⊥
IsRepacked (Some bytes) (Some other) = (bytes ≡ other) ⊎ GiveTheSame bytes other

-- all files of fonts are the same but for PK files
pub record DifferInPacking (l m : FileTable) : Type 0 where
  pub tfm : (k : FontKey) → get l (tfm_name k) ≡ get m (tfm_name k)
  pub vf : (k : FontKey) → get l (vf_name k) ≡ get m (vf_name k)
  pub pk : (k : FontKey) (n : ℕ) → IsRepacked (get l (glyph_name (codes "pk") k n))
      (get m (glyph_name (codes "pk") k n))
  pub gf : (k : FontKey) (n : ℕ) → get l (glyph_name (codes "gf") k n)
      ≡ get m (glyph_name (codes "gf") k n)
