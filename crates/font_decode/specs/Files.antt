-- Which of a font's files are found in a library: a TFM file first, since no font is without its
-- widths; then a VF file; and where the font isn't a virtual one, the first PK file that is there,
-- or where none is, the first GF file. What a file holds doesn't matter here.
use Rattle.std.specs.Prelude.{◌≡◌, List, [], ◌∷◌, ℕ, ◌+◌, Bool, not, ◌&&◌, Option, None, is_some, is_none, IsSome, IsNone, IsTrue, if◌then◌else◌}
use Rattle.std.specs.Option.{option_map, option_or}
use Rattle.std.specs.FinMap.{get}
use Rattle.outside.specs.Library as library
use Rattle.outside.specs.declared.keys.FontKey.{FontKey}
use Rattle.pixel_round.specs.declared.units.Units.{Units}
use Rattle.font_decode.specs.Names.{is_valid_name, dpi, is_resolution, tfm_name, vf_name, pk_names, gf_names, glyph_names}
use Rattle.font_decode.specs.declared.files.Files.{Files}

-- the bytes of a font's files
pub record FontFiles : Type 0 where
  pub tfm : Option (List ℕ)
  pub vf : Option (List ℕ)
  pub pk : Option (List ℕ)
  pub gf : Option (List ℕ)

abbrev pub bytes_of : Files → FontFiles
bytes_of f = record {
  tfm = option_map (λ v. v.items) f.tfm;
  vf = option_map (λ v. v.items) f.vf;
  pk = option_map (λ v. v.items) f.pk;
  gf = option_map (λ v. v.items) f.gf;
}

-- the first file that is there
abbrev pub first_there : library.FileTable → List (List ℕ) → Option (List ℕ)
first_there l [] = None
first_there l (name ∷ names) = option_or (get l name) (first_there l names)

-- the names in order, up to the first of a file that is there
abbrev pub up_to_there : library.FileTable → List (List ℕ) → List (List ℕ)
up_to_there l [] = []
up_to_there l (name ∷ names) = name ∷ (if is_some (get l name) then [] else up_to_there l names)

-- the files of glyphs that a font may have: none where its resolution is out of range
abbrev pub pk_choices : Units → FontKey → List (List ℕ)
pk_choices u k = if is_resolution (dpi u k) then pk_names u k else []

abbrev pub gf_choices : Units → FontKey → List (List ℕ)
gf_choices u k = if is_resolution (dpi u k) then gf_names u k else []

abbrev pub glyph_choices : Units → FontKey → List (List ℕ)
glyph_choices u k = if is_resolution (dpi u k) then glyph_names u k else []

-- the files of a font
pub record IsFound (l : library.FileTable) (u : Units) (k : FontKey) (f : FontFiles) : Type 0 where
  pub tfm : f.tfm ≡ (if is_valid_name k then get l (tfm_name k) else None)
  pub vf : f.vf ≡ (if is_some f.tfm then get l (vf_name k) else None)
  pub pk : f.pk ≡ (if is_some f.tfm && is_none f.vf then first_there l (pk_choices u k) else None)
  pub gf : f.gf ≡ (if is_some f.tfm && is_none f.vf && is_none f.pk
      then first_there l (gf_choices u k) else None)

-- the names looked for, in order
abbrev pub looked_for : library.FileTable → Units → FontKey → List (List ℕ)
looked_for l u k =
    if not (is_valid_name k) then []
    else if is_none (get l (tfm_name k)) then tfm_name k ∷ []
    else if is_some (get l (vf_name k)) then tfm_name k ∷ vf_name k ∷ []
    else tfm_name k ∷ vf_name k ∷ up_to_there l (glyph_choices u k)

-- whatever the source: what is looked for after what
pub record IsInOrder (u : Units) (k : FontKey) (f : FontFiles) : Type 0 where
  pub tfm : IsSome f.tfm → IsTrue (is_valid_name k)
  pub vf : IsSome f.vf → IsSome f.tfm
  pub pk : IsSome f.pk → IsSome f.tfm × IsNone f.vf × IsTrue (is_resolution (dpi u k))
  pub gf : IsSome f.gf → IsSome f.tfm × IsNone f.vf × IsNone f.pk
      × IsTrue (is_resolution (dpi u k))

-- how many files of glyphs were looked for, by whether a PK or a GF file was found: up to the first
-- that is there, or all six
abbrev pub fewest_glyphs : Units → FontKey → Bool → Bool → ℕ
fewest_glyphs u k has_pk has_gf =
    if not (is_resolution (dpi u k)) then 0
    else if has_pk then 1
    else if has_gf then 4
    else 6

abbrev pub most_glyphs : Units → FontKey → Bool → ℕ
most_glyphs u k has_pk =
    if not (is_resolution (dpi u k)) then 0
    else if has_pk then 3
    else 6

-- how many files were looked for, by those that were found
abbrev pub fewest_loads : Units → FontKey → FontFiles → ℕ
fewest_loads u k f =
    if not (is_valid_name k) then 0
    else if is_none f.tfm then 1
    else if is_some f.vf then 2
    else 2 + fewest_glyphs u k (is_some f.pk) (is_some f.gf)

abbrev pub most_loads : Units → FontKey → FontFiles → ℕ
most_loads u k f =
    if not (is_valid_name k) then 0
    else if is_none f.tfm then 1
    else if is_some f.vf then 2
    else 2 + most_glyphs u k (is_some f.pk)
