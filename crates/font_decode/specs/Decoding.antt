-- What the font of a key is, by its files, or what is wrong with it first. The order in which name
-- and files are judged is this driver's own; what the files hold is defined by Knuth's TFtoPL,
-- VFtoVP and GFtype and Rokicki's PKtype, and the widths by DVItype, "Reading the font
-- information".
use Rattle.std.specs.Prelude.{◌≡◌, ◌⊎◌, ℕ, ℤ, Bool, List, length, nat_lt, slice_get, Option, None, IfSome, IsFalse, IsTrue, MatchBool, MatchOption}
use Rattle.std.specs.Option.{option_map}
use Rattle.fix_word.specs.Scale.{scale}
use Rattle.tfm_reader.specs.Tfm.{tfm_fault, tfm_width}
use Rattle.pk_packets.specs.Fonts.{IsPkFile, IsAnswer}
use Rattle.pk_packets.specs.Faults.{IsFirstFault}
use Rattle.pk_packets.specs.declared.faults.PkFault.{PkFault}
use Rattle.gf_reader.specs.Characters.{Character, glyph_for}
use Rattle.gf_reader.specs.Fonts.{IsGfFile}
use Rattle.gf_reader.specs.FirstFault as gf_file
use Rattle.gf_reader.specs.declared.faults.GfFault.{GfFault}
use Rattle.vf_reader.specs.Fonts.{IsVfFile, program_with}
use Rattle.vf_reader.specs.Locals.{local_with, locals_of}
use Rattle.vf_reader.specs.Faults as vf_file
use Rattle.vf_reader.specs.declared.faults.VfFault.{VfFault}
use Rattle.outside.specs.Library as library
use Rattle.outside.specs.declared.keys.FontKey.{FontKey}
use Rattle.pixel_round.specs.declared.units.Units.{Units}
use Rattle.font_decode.specs.Limits.{MAX_FILE_LENGTH}
use Rattle.font_decode.specs.Names.{is_valid_name, dpi, is_resolution}
use Rattle.font_decode.specs.Files.{FontFiles, IsFound, IsInOrder}
use Rattle.font_decode.specs.Fonts.{FontValue, scaled_width_of, glyph_at, is_virtual_of, packet_of, local_of, first_local_of}
use Rattle.font_decode.specs.Locals.{are_local_sizes, local_key}
use Rattle.font_decode.specs.declared.font_or_fault.Decoded.{Decoded}
use Rattle.font_decode.specs.declared.font_or_fault.Decoded.TheVariants.{Font, Bare, Fault}
use Rattle.font_decode.specs.declared.faults.FileKind.TheVariants as kind
use Rattle.font_decode.specs.declared.faults.FontFault.TheVariants as fault

-- ---- a font

-- the width of a code by a TFM file, at a size
abbrev pub scaled_width : ℕ → List ℕ → ℤ → Option ℤ
scaled_width size tfm c = option_map (λ w. scale w size) (tfm_width tfm c)

-- the font of a key with these two files, each of which is sound
pub record IsPackedFont (k : FontKey) (tfm pk : List ℕ) (f : FontValue) : Type 0 where
  pub size : f.size ≡ k.size
  pub widths : (c : ℤ) → scaled_width_of f c ≡ scaled_width k.size tfm c
  pub packed : IsFalse (is_virtual_of f)
  pub items : List (List ℕ)
  pub file : IsPkFile pk items
  pub glyphs : (c : ℕ) → IsAnswer items c (glyph_at f c)

-- the same with a GF file in place of the PK file
pub record IsGenericFont (k : FontKey) (tfm gf : List ℕ) (f : FontValue) : Type 0 where
  pub size : f.size ≡ k.size
  pub widths : (c : ℤ) → scaled_width_of f c ≡ scaled_width k.size tfm c
  pub packed : IsFalse (is_virtual_of f)
  pub characters : List Character
  pub file : IsGfFile gf characters
  pub glyphs : (c : ℕ) → glyph_at f c ≡ glyph_for characters c

-- the bare font of a key with a sound TFM file and no file of glyphs: its widths, and no glyph
pub record IsBareFont (k : FontKey) (tfm : List ℕ) (f : FontValue) : Type 0 where
  pub size : f.size ≡ k.size
  pub widths : (c : ℤ) → scaled_width_of f c ≡ scaled_width k.size tfm c
  pub packed : IsFalse (is_virtual_of f)
  pub none : (c : ℕ) → glyph_at f c ≡ None

-- the font of a key with a sound TFM file and these items of a sound VF file, whose local fonts
-- have sizes in range
pub record IsVirtualFont (u : Units) (k : FontKey) (tfm : List ℕ) (items : List (List ℕ))
    (f : FontValue) : Type 0 where
  pub size : f.size ≡ k.size
  pub widths : (c : ℤ) → scaled_width_of f c ≡ scaled_width k.size tfm c
  pub virtual : IsTrue (is_virtual_of f)
  pub packets : (c : ℕ) → packet_of f c ≡ program_with items c
  pub locals : (n : ℤ) → local_of f n ≡ option_map (local_key u k.size) (local_with
      (locals_of items) n)
  pub first : first_local_of f ≡ option_map (λ local. local.number) (slice_get (locals_of items) 0)

-- ---- what a key's files come to: each definition goes on where the one after it has found no
-- fault

-- more bytes than a file may have, whatever they are
abbrev pub is_too_long : List ℕ → Bool
is_too_long bytes = nat_lt MAX_FILE_LENGTH (length bytes)

-- a PK file: the font, or the file's first fault
abbrev pub DecodesPk : FontKey → List ℕ → List ℕ → Decoded → Type 0
DecodesPk k tfm pk (Font f) = IsPackedFont k tfm pk f
DecodesPk k tfm pk (Bare f) = ⊥
DecodesPk k tfm pk (Fault f) = (found : PkFault) × IsFirstFault pk found × (f ≡ fault.Pk found)

abbrev pub DecodesShortPk : FontKey → List ℕ → List ℕ → Decoded → Type 0
DecodesShortPk k tfm pk d =
    MatchBool (is_too_long pk) (d ≡ Fault (fault.TooLong kind.Pk)) (DecodesPk k tfm pk d)

-- a GF file: the font, or the file's first fault
abbrev pub DecodesGf : FontKey → List ℕ → List ℕ → Decoded → Type 0
DecodesGf k tfm gf (Font f) = IsGenericFont k tfm gf f
DecodesGf k tfm gf (Bare f) = ⊥
DecodesGf k tfm gf (Fault f) =
    (found : GfFault) × gf_file.IsFirstFault gf found × (f ≡ fault.Gf found)

abbrev pub DecodesShortGf : FontKey → List ℕ → List ℕ → Decoded → Type 0
DecodesShortGf k tfm gf d =
    MatchBool (is_too_long gf) (d ≡ Fault (fault.TooLong kind.Gf)) (DecodesGf k tfm gf d)

-- no file of glyphs: the bare font
abbrev pub DecodesBare : FontKey → List ℕ → Decoded → Type 0
DecodesBare k tfm (Font f) = ⊥
DecodesBare k tfm (Bare f) = IsBareFont k tfm f
DecodesBare k tfm (Fault f) = ⊥

-- where there is a PK file, no GF file is looked at; without either, the font is bare
abbrev pub DecodesGlyphs : FontKey → List ℕ → FontFiles → Decoded → Type 0
DecodesGlyphs k tfm files d = MatchOption files.pk
    (MatchOption files.gf (DecodesBare k tfm d) (λ gf. DecodesShortGf k tfm gf d))
    (λ pk. DecodesShortPk k tfm pk d)

-- without a VF file: the resolution before the files of glyphs
abbrev pub DecodesPacked : Units → FontKey → List ℕ → FontFiles → Decoded → Type 0
DecodesPacked u k tfm files d =
    MatchBool (is_resolution (dpi u k)) (DecodesGlyphs k tfm files d) (d ≡ Fault fault.Size)

-- the items of a sound VF file: the font, or a local font's size or design size out of range
abbrev pub DecodesItems : Units → FontKey → List ℕ → List (List ℕ) → Decoded → Type 0
DecodesItems u k tfm items (Font f) =
    IsTrue (are_local_sizes u k.size (locals_of items)) × IsVirtualFont u k tfm items f
DecodesItems u k tfm items (Bare f) = ⊥
DecodesItems u k tfm items (Fault f) =
    IsFalse (are_local_sizes u k.size (locals_of items)) × (f ≡ fault.Size)

-- a VF file: its first fault, or what its items come to
abbrev pub DecodesVf : Units → FontKey → List ℕ → List ℕ → Decoded → Type 0
DecodesVf u k tfm vf d =
    ((found : VfFault) × vf_file.IsFirstFault vf found × (d ≡ Fault (fault.Vf found)))
    ⊎ ((items : List (List ℕ)) × IsVfFile vf items × DecodesItems u k tfm items d)

abbrev pub DecodesShortVf : Units → FontKey → List ℕ → List ℕ → Decoded → Type 0
DecodesShortVf u k tfm vf d =
    MatchBool (is_too_long vf) (d ≡ Fault (fault.TooLong kind.Vf)) (DecodesVf u k tfm vf d)

-- after a sound TFM file: where there is a VF file, no file of glyphs is looked at
abbrev pub DecodesSound : Units → FontKey → List ℕ → FontFiles → Decoded → Type 0
DecodesSound u k tfm files d =
    MatchOption files.vf (DecodesPacked u k tfm files d) (λ vf. DecodesShortVf u k tfm vf d)

-- a TFM file: too long before what it holds
abbrev pub DecodesTfm : Units → FontKey → List ℕ → FontFiles → Decoded → Type 0
DecodesTfm u k tfm files d = MatchBool (is_too_long tfm) (d ≡ Fault (fault.TooLong kind.Tfm))
    (MatchOption (tfm_fault tfm) (DecodesSound u k tfm files d)
    (λ found. d ≡ Fault (fault.Tfm found)))

-- the font of a key by its files, or its first fault: the name before the files
abbrev pub IsDecodingOf : Units → FontKey → FontFiles → Decoded → Type 0
IsDecodingOf u k files d = MatchBool (is_valid_name k)
    (MatchOption files.tfm (d ≡ Fault (fault.Missing kind.Tfm)) (λ tfm. DecodesTfm u k tfm files d))
    (d ≡ Fault fault.Name)

-- ---- in a library

-- the font of a key, by the files that a library has of it
pub record IsFontIn (l : library.FileTable) (u : Units) (k : FontKey) (d : Decoded) : Type 0 where
  pub files : FontFiles
  pub found : IsFound l u k files
  pub decoding : IsDecodingOf u k files d

-- the font of a key, by some files that may be its own
pub record IsFontBySome (u : Units) (k : FontKey) (d : Decoded) : Type 0 where
  pub files : FontFiles
  pub order : IsInOrder u k files
  pub decoding : IsDecodingOf u k files d

-- by the files of the library where it is known, and else by some files, with the units of the
-- document
abbrev pub IsFontOf : Option library.FileTable → Option Units → FontKey → Decoded → Type 0
IsFontOf known units k d =
    IfSome units (λ u. MatchOption known (IsFontBySome u k d) (λ l. IsFontIn l u k d))

-- ---- which decodings can't be told apart

pub record AreAlikeFonts (f g : FontValue) : Type 0 where
  pub size : f.size ≡ g.size
  pub widths : (c : ℤ) → scaled_width_of f c ≡ scaled_width_of g c
  pub virtual : is_virtual_of f ≡ is_virtual_of g
  pub glyphs : (c : ℕ) → glyph_at f c ≡ glyph_at g c
  pub packets : (c : ℕ) → packet_of f c ≡ packet_of g c
  pub locals : (n : ℤ) → local_of f n ≡ local_of g n
  pub first : first_local_of f ≡ first_local_of g

-- one fault, or fonts, both bare or neither of them, with one size, with one width, glyph and
-- packet for each code, and with the same local fonts
abbrev pub AreAlike : Decoded → Decoded → Type 0
AreAlike (Font f) (Font g) = AreAlikeFonts f g
AreAlike (Bare f) (Bare g) = AreAlikeFonts f g
AreAlike (Fault f) (Fault g) = f ≡ g
AreAlike _ _ = ⊥
