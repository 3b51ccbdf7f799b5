-- The names of a font's files: `name.tfm` (Knuth, TFtoPL), `name.vf` (Knuth, VFtoVP), and for the
-- glyphs at 300 dots to the inch `name.300pk` (Rokicki, PKtype; the name is that of dvips) and
-- `name.300gf` (Knuth, GFtype; the name is that of METAFONT). Which names are looked for is this
-- driver's own choice: those that stay in a folder.
use Rattle.std.specs.Prelude.{ℕ, List, [], ◌∷◌, ◌++◌, ◌+◌, ◌-◌, ◌*◌, Bool, not, ◌&&◌, ◌||◌, ◌==◌, length, slice_index, slice_index_or, codes, decimal}
use Rattle.std.specs.List.{list_all}
use Rattle.std.specs.Int.{is_in_range}
use Rattle.fix_word.specs.Scale.{half_up}
use Rattle.outside.specs.declared.keys.FontKey.{FontKey}
use Rattle.pixel_round.specs.declared.units.Units.{Units}

-- ---- the names that are looked for

-- an ASCII letter, a digit, `-`, `_`, `+` or `.`
abbrev pub is_name_byte : ℕ → Bool
is_name_byte b =
    is_in_range 65 90 b || is_in_range 97 122 b || is_in_range 48 57 b || b == 45 || b == 95
    || b == 43 || b == 46

-- no area, 1 to 100 such bytes, and no dot at its beginning
abbrev pub is_valid_name : FontKey → Bool
is_valid_name k =
    k.area == 0 && is_in_range 1 100 (length k.name) && list_all is_name_byte k.name
    && not (slice_index k.name 0 == 46)

-- ---- the resolution of a font's glyphs

-- the dots to the inch of a font at its size, to the nearest whole number, halves up
abbrev pub dpi : Units → FontKey → ℕ
dpi u k = half_up (u.res * u.mag * k.size) (1000 * k.design)

-- the resolutions of PK and GF files that are looked for
abbrev pub is_resolution : ℕ → Bool
is_resolution n = is_in_range 1 1000000 n

-- ---- the names of files

abbrev pub tfm_name : FontKey → List ℕ
tfm_name k = k.name ++ codes ".tfm"

abbrev pub vf_name : FontKey → List ℕ
vf_name k = k.name ++ codes ".vf"

-- a file of glyphs at a resolution, of the kind that two letters name
abbrev pub glyph_name : List ℕ → FontKey → ℕ → List ℕ
glyph_name kind k resolution = k.name ++ codes "." ++ decimal resolution ++ kind

-- such files at the font's resolution and, since it was rounded, at the two next to it: one above
-- before one below
abbrev pub nearest_names : List ℕ → Units → FontKey → List (List ℕ)
nearest_names kind u k =
    glyph_name kind k (dpi u k) ∷ glyph_name kind k (dpi u k + 1)
    ∷ glyph_name kind k (dpi u k - 1) ∷ []

abbrev pub pk_names : Units → FontKey → List (List ℕ)
pk_names u k = nearest_names (codes "pk") u k

abbrev pub gf_names : Units → FontKey → List (List ℕ)
gf_names u k = nearest_names (codes "gf") u k

-- PK files before GF files
abbrev pub glyph_names : Units → FontKey → List (List ℕ)
glyph_names u k = pk_names u k ++ gf_names u k

-- all the names of a font's files, in the order in which they are looked for
abbrev pub file_names : Units → FontKey → List (List ℕ)
file_names u k = tfm_name k ∷ vf_name k ∷ glyph_names u k

-- one of them by its place, and three that follow one another
abbrev pub name_at : Units → FontKey → ℕ → List ℕ
name_at u k n = slice_index_or (file_names u k) n []

abbrev pub three_names : Units → FontKey → ℕ → List (List ℕ)
three_names u k n = name_at u k n ∷ name_at u k (n + 1) ∷ name_at u k (n + 2) ∷ []
