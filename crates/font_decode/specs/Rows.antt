-- What may be wrong with a font: one list of rows, in the order in which its name and its files are
-- judged. The first row that holds is the font's fault, but that of files of glyphs which are
-- missing: there the font is bare. Where none holds, there is the font.
use Rattle.std.specs.Prelude.{◌≡◌, ◌≢◌, ◌⊎◌, ℕ, List, [], ◌∷◌, Some, None, IsTrue, IsFalse, MatchOption}
use Rattle.tfm_reader.specs.Tfm.{tfm_fault}
use Rattle.tfm_reader.specs.declared.faults.TfmFault.{TfmFault}
use Rattle.pk_packets.specs.Faults as pk_file
use Rattle.pk_packets.specs.declared.faults.PkFault.{PkFault}
use Rattle.gf_reader.specs.FirstFault as gf_file
use Rattle.gf_reader.specs.declared.faults.GfFault.{GfFault}
use Rattle.vf_reader.specs.Faults as vf_file
use Rattle.vf_reader.specs.Fonts.{IsVfFile}
use Rattle.vf_reader.specs.Locals.{locals_of}
use Rattle.vf_reader.specs.declared.faults.VfFault.{VfFault}
use Rattle.outside.specs.declared.keys.FontKey.{FontKey}
use Rattle.pixel_round.specs.declared.units.Units.{Units}
use Rattle.font_decode.specs.Names.{is_valid_name, dpi, is_resolution}
use Rattle.font_decode.specs.Files.{FontFiles}
use Rattle.font_decode.specs.Fonts.{FontValue}
use Rattle.font_decode.specs.Locals.{are_local_sizes}
use Rattle.font_decode.specs.Decoding.{is_too_long, IsBareFont, IsPackedFont, IsGenericFont, IsVirtualFont}
use Rattle.font_decode.specs.declared.font_or_fault.Decoded.{Decoded}
use Rattle.font_decode.specs.declared.font_or_fault.Decoded.TheVariants.{Font, Bare, Fault}
use Rattle.font_decode.specs.declared.faults.FileKind.TheVariants as kind
use Rattle.font_decode.specs.declared.faults.FontFault.{FontFault}
use Rattle.font_decode.specs.declared.faults.FontFault.TheVariants as fault

-- ---- the rows, in their order

pub data Row : Type 0 where
  WrongName : Row
  NoTfm : Row
  LongTfm : Row
  WrongTfm : Row
  LongVf : Row
  WrongVf : Row
  LocalSize : Row
  Resolution : Row
  LongPk : Row
  WrongPk : Row
  LongGf : Row
  WrongGf : Row
  NoGlyphs : Row

abbrev pub rows : List Row
rows = WrongName ∷ NoTfm ∷ LongTfm ∷ WrongTfm ∷ LongVf ∷ WrongVf ∷ LocalSize ∷ Resolution
    ∷ LongPk ∷ WrongPk ∷ LongGf ∷ WrongGf ∷ NoGlyphs ∷ []

-- the fault of a font without a file of glyphs
abbrev pub NO_GLYPHS : FontFault
NO_GLYPHS = fault.Missing kind.Pk

-- a row holds of a key and its files, with this fault; those of a PK file only where there is no VF
-- file, and those of a GF file only where there is no PK file either
abbrev pub Holds : Units → FontKey → FontFiles → Row → FontFault → Type 0
Holds u k files WrongName f = IsFalse (is_valid_name k) × (f ≡ fault.Name)
Holds u k files NoTfm f = (files.tfm ≡ None) × (f ≡ fault.Missing kind.Tfm)
Holds u k files LongTfm f =
    (bytes : List ℕ) × (files.tfm ≡ Some bytes) × IsTrue (is_too_long bytes)
    × (f ≡ fault.TooLong kind.Tfm)
Holds u k files WrongTfm f =
    (bytes : List ℕ) × (files.tfm ≡ Some bytes) × (found : TfmFault)
    × (tfm_fault bytes ≡ Some found) × (f ≡ fault.Tfm found)
Holds u k files LongVf f =
    (bytes : List ℕ) × (files.vf ≡ Some bytes) × IsTrue (is_too_long bytes)
    × (f ≡ fault.TooLong kind.Vf)
Holds u k files WrongVf f =
    (bytes : List ℕ) × (files.vf ≡ Some bytes) × (found : VfFault)
    × vf_file.IsFirstFault bytes found × (f ≡ fault.Vf found)
Holds u k files LocalSize f =
    (bytes : List ℕ) × (files.vf ≡ Some bytes) × (items : List (List ℕ)) × IsVfFile bytes items
    × IsFalse (are_local_sizes u k.size (locals_of items)) × (f ≡ fault.Size)
Holds u k files Resolution f =
    (files.vf ≡ None) × IsFalse (is_resolution (dpi u k)) × (f ≡ fault.Size)
Holds u k files LongPk f =
    (files.vf ≡ None) × (bytes : List ℕ) × (files.pk ≡ Some bytes) × IsTrue (is_too_long bytes)
    × (f ≡ fault.TooLong kind.Pk)
Holds u k files WrongPk f =
    (files.vf ≡ None) × (bytes : List ℕ) × (files.pk ≡ Some bytes) × (found : PkFault)
    × pk_file.IsFirstFault bytes found × (f ≡ fault.Pk found)
Holds u k files LongGf f =
    (files.vf ≡ None) × (files.pk ≡ None) × (bytes : List ℕ) × (files.gf ≡ Some bytes)
    × IsTrue (is_too_long bytes) × (f ≡ fault.TooLong kind.Gf)
Holds u k files WrongGf f =
    (files.vf ≡ None) × (files.pk ≡ None) × (bytes : List ℕ) × (files.gf ≡ Some bytes)
    × (found : GfFault) × gf_file.IsFirstFault bytes found × (f ≡ fault.Gf found)
Holds u k files NoGlyphs f =
    (files.vf ≡ None) × (files.pk ≡ None) × (files.gf ≡ None) × (f ≡ NO_GLYPHS)

-- ---- the first row that holds, else the font

abbrev pub HoldsNot : Units → FontKey → FontFiles → Row → Type 0
HoldsNot u k files row = (f : FontFault) → Holds u k files row f → ⊥

abbrev pub NoneHolds : Units → FontKey → FontFiles → List Row → Type 0
NoneHolds u k files [] = Unit {0}
NoneHolds u k files (row ∷ others) = HoldsNot u k files row × NoneHolds u k files others

-- the first of these rows that holds, holds with this fault
abbrev pub FirstHolds : Units → FontKey → FontFiles → List Row → FontFault → Type 0
FirstHolds u k files [] f = ⊥
FirstHolds u k files (row ∷ others) f =
    Holds u k files row f ⊎ (HoldsNot u k files row × FirstHolds u k files others f)

-- the font that the files make
abbrev pub IsPackedOf : FontKey → List ℕ → FontFiles → FontValue → Type 0
IsPackedOf k tfm files f = MatchOption files.pk
    ((gf : List ℕ) × (files.gf ≡ Some gf) × IsGenericFont k tfm gf f)
    (λ pk. IsPackedFont k tfm pk f)

abbrev pub IsVirtualOf : Units → FontKey → List ℕ → List ℕ → FontValue → Type 0
IsVirtualOf u k tfm vf f =
    (items : List (List ℕ)) × IsVfFile vf items × IsVirtualFont u k tfm items f

abbrev pub IsFontOfFiles : Units → FontKey → FontFiles → FontValue → Type 0
IsFontOfFiles u k files f =
    (tfm : List ℕ) × (files.tfm ≡ Some tfm) × MatchOption files.vf (IsPackedOf k tfm files f)
    (λ vf. IsVirtualOf u k tfm vf f)

-- the font that the TFM file alone makes
abbrev pub IsBareOfFiles : FontKey → FontFiles → FontValue → Type 0
IsBareOfFiles k files f = (tfm : List ℕ) × (files.tfm ≡ Some tfm) × IsBareFont k tfm f

-- the fault of the first row that holds, in place of which the font is bare where no file of glyphs
-- is there; else the font
abbrev pub IsFirstOf : Units → FontKey → FontFiles → List Row → Decoded → Type 0
IsFirstOf u k files from (Font f) = NoneHolds u k files from × IsFontOfFiles u k files f
IsFirstOf u k files from (Bare f) = FirstHolds u k files from NO_GLYPHS × IsBareOfFiles k files f
IsFirstOf u k files from (Fault f) = FirstHolds u k files from f × (f ≢ NO_GLYPHS)

abbrev pub IsFirstRow : Units → FontKey → FontFiles → Decoded → Type 0
IsFirstRow u k files d = IsFirstOf u k files rows d
