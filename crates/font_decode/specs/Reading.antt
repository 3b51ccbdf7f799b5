-- What is read of a TFM file, and of a VF file.
use Rattle.std.specs.Prelude.{◌≡◌, ℕ, ◌^◌, ◌<◌, ◌≤◌, ℤ, List, length, Option, None}
use Rattle.tfm_reader.specs.Tfm.{tfm_fault, tfm_width, width_of}
use Rattle.vf_reader.specs.Fonts.{AreSound, HasPacketsOf, Virtual}
use Rattle.vf_reader.specs.declared.locals.LocalDef.{LocalDef}
use Rattle.fix_word.specs.FixWords.{FIX_WORDS}

-- the bytes are a sound TFM file, and this is its table of widths
pub record IsTfmOf (bytes : List ℕ) (table : List (Option ℤ)) : Type 0 where
  pub sound : tfm_fault bytes ≡ None
  pub widths : (c : ℤ) → width_of table c ≡ tfm_width bytes c

-- what holds of a sound definition: the factor and the design size are positive fix_words, the
-- factor one below 16, and the area lies in the name
pub record IsLocalDef (d : LocalDef) : Type 0 where
  pub factor : (1 ≤ d.factor) × (d.factor < FIX_WORDS)
  pub points : (1 ≤ d.points) × (d.points < 2 ^ 31)
  pub area : d.area ≤ length d.name

-- the packets and local fonts of some sound items
pub record IsVfRead (file : Virtual) : Type 0 where
  pub items : List (List ℕ)
  pub sound : AreSound items
  pub font : HasPacketsOf items file
