-- The sample: a document of n pages in three fonts, one of them virtual, with the font files of all
-- three. This project's own choice.
use Rattle.std.specs.Prelude.{◌≡◌, ℕ, ◌+◌, ◌%◌, ◌≤◌, ℤ, pos, Bool, true, false, if◌then◌else◌, List, [], ◌∷◌, ◌++◌, codes, length, map, replicate, Some}
use Rattle.std.specs.List.{range_with_len, repeat}
use Rattle.std.specs.FinMap.{find, from_entries, get}
use Rattle.std.specs.Cmp.Lexicographic.{slice_cmp}
use Rattle.std.specs.Ordering.{nat_cmp}
use Rattle.outside.specs.Library.{FileTable}
use Rattle.outside.specs.declared.keys.FontKey.{FontKey}
use Rattle.pixel_round.specs.Limits.{MAX_RESOLUTION}
use Rattle.pixel_round.specs.declared.units.Units.{Units}
use Rattle.page_index.specs.Document.{IsDocument, Reading}
use Rattle.page_index.specs.Limits.{MAX_DOCUMENT_LENGTH}
use Rattle.tfm_reader.specs.Right.{IsTfm}
use Rattle.tfm_reader.specs.Tfm.{tfm_width}
use Rattle.pk_runs.specs.declared.glyph.Glyph.{Glyph}
use Rattle.pk_packets.specs.Fonts.{IsAnswer, IsPkFile}
use Rattle.vf_reader.specs.Fonts.{IsVfFile, program_with}
use Rattle.vf_reader.specs.Locals.{locals_of}
use Rattle.vf_reader.specs.declared.locals.LocalDef.{LocalDef}
use Rattle.sample_maker.specs.DviFile.{GivesBack, document_text}
use Rattle.sample_maker.specs.PkFile.{glyph_given, packed_file}
use Rattle.sample_maker.specs.TfmFile.{tfm_file}
use Rattle.sample_maker.specs.VfFile.{vf_file}

-- the names of the fonts
abbrev pub duo : List ℕ
duo = codes "duo"

abbrev pub dot : List ℕ
dot = codes "dot"

abbrev pub bar : List ℕ
bar = codes "bar"

-- ---- the document

-- a unit is half a dot at 300 dots to the inch
abbrev pub sample_units : Units
sample_units = record { num = 1270; den = 3; mag = 1000; res = 300 }

-- a font at its design size
abbrev pub font_of : ℤ → List ℕ → ℤ × FontKey
font_of number name = (number, record { area = 0; name = name; size = 128; design = 128 })

abbrev pub sample_fonts : List (ℤ × FontKey)
sample_fonts = font_of (pos 0) duo ∷ font_of (pos 1) dot ∷ font_of (pos 2) bar ∷ []

-- four characters 65 side by side, and then 40 units down from where they began
abbrev pub line : List ℕ
line = 0x8d ∷ 0x41 ∷ 0x41 ∷ 0x41 ∷ 0x41 ∷ 0x8e ∷ 0x9e ∷ 0x00 ∷ 0x28 ∷ []

-- the page with a number, from 1: one to three lines in font 0, and five characters 65 in font 1
unfoldable pub sample_page : ℕ → List ℕ
sample_page i = 0xab ∷ repeat (1 + i % 3) line ++ 0xac ∷ replicate 5 0x41

unfoldable pub sample_pages : ℕ → List (List ℕ)
sample_pages n = map sample_page (range_with_len 1 n)

unfoldable pub sample_document : ℕ → List ℕ
sample_document n = document_text sample_units sample_fonts (sample_pages n)

-- ---- the font files

-- the widths of the character 65: 20, 8 and 12 units at a size of 128
unfoldable pub duo_tfm : List ℕ
duo_tfm = tfm_file ((65, pos 0x28000) ∷ [])

unfoldable pub dot_tfm : List ℕ
dot_tfm = tfm_file ((65, pos 0x10000) ∷ [])

unfoldable pub bar_tfm : List ℕ
bar_tfm = tfm_file ((65, pos 0x18000) ∷ [])

-- a font at the virtual font's size, with a design size of 128 units in points
abbrev pub local_of : ℤ → List ℕ → LocalDef
local_of number name =
    record { number = number; area = 0; name = name; factor = 0x00100000; points = 0x00f6ae7d }

-- the character 65 is that of its first font, and after it that of its second
unfoldable pub duo_vf : List ℕ
duo_vf =
    vf_file (local_of (pos 0) dot ∷ local_of (pos 1) bar ∷ [])
    ((65, pos 0x28000, 0x41 ∷ 0xac ∷ 0x41 ∷ []) ∷ [])

-- no comment, a design size of ten points, the checksum 0, and 300 dots to the inch
abbrev pub pk_preamble : List ℕ
pk_preamble =
    0xf7 ∷ 0x59 ∷ 0x00 ∷ 0x00 ∷ 0xa0 ∷ 0x00 ∷ 0x00 ∷ 0x00 ∷ 0x00 ∷ 0x00 ∷ 0x00
    ∷ 0x00 ∷ 0x04 ∷ 0x26 ∷ 0xae ∷ 0x00 ∷ 0x04 ∷ 0x26 ∷ 0xae ∷ []

-- the character 65: two rows of two black pixels
unfoldable pub dot_pk : List ℕ
dot_pk =
    pk_preamble
    ++ 0xe0 ∷ 0x09 ∷ 0x41 ∷ 0x01 ∷ 0x00 ∷ 0x00 ∷ 0x04 ∷ 0x02 ∷ 0x02 ∷ 0x00 ∷ 0x01 ∷ 0xf0 ∷ 0xf5 ∷ []

-- the character 65: three rows with a white pixel between two black ones, and below them one of
-- three black pixels
unfoldable pub bar_pk : List ℕ
bar_pk =
    pk_preamble
    ++ 0xa8 ∷ 0x0b ∷ 0x41 ∷ 0x01 ∷ 0x80 ∷ 0x00 ∷ 0x06 ∷ 0x03 ∷ 0x04 ∷ 0x00 ∷ 0x03 ∷ 0xe2 ∷ 0x11
    ∷ 0x40 ∷ 0xf5 ∷ 0xf6 ∷ 0xf6 ∷ []

-- the glyphs of the character 65, row by row, with true for black
abbrev pub dot_glyph : Glyph
dot_glyph = record {
  raster = record { width = 2; height = 2; rows = (true ∷ true ∷ []) ∷ (true ∷ true ∷ []) ∷ [] };
  hoff = pos 0;
  voff = pos 1;
}

abbrev pub bar_glyph : Glyph
bar_glyph = record {
  raster = record {
    width = 3;
    height = 4;
    rows = (true ∷ false ∷ true ∷ []) ∷ (true ∷ false ∷ true ∷ []) ∷ (true ∷ false ∷ true ∷ [])
        ∷ (true ∷ true ∷ true ∷ []) ∷ [];
  };
  hoff = pos 0;
  voff = pos 3;
}

-- and PK files in which these are packed
unfoldable pub packed_dot_pk : List ℕ
packed_dot_pk = packed_file ((65, dot_glyph) ∷ [])

unfoldable pub packed_bar_pk : List ℕ
packed_bar_pk = packed_file ((65, bar_glyph) ∷ [])

-- the files with their names, by the PK files of `dot` and `bar`
abbrev pub other_files : List (List ℕ × List ℕ)
other_files =
    (codes "duo.tfm", duo_tfm) ∷ (codes "dot.tfm", dot_tfm) ∷ (codes "bar.tfm", bar_tfm)
    ∷ (codes "duo.vf", duo_vf) ∷ []

abbrev pub files_with : (of_dot of_bar : List ℕ) → List (List ℕ × List ℕ)
files_with of_dot of_bar =
    (codes "dot.300pk", of_dot) ∷ (codes "bar.300pk", of_bar) ∷ other_files

abbrev pub named_files : List (List ℕ × List ℕ)
named_files = files_with dot_pk bar_pk

unfoldable pub sample_files : FileTable
sample_files = from_entries named_files

unfoldable pub packed_files : FileTable
packed_files = from_entries (files_with packed_dot_pk packed_bar_pk)

-- those of either sample
abbrev pub made_files : (packed : Bool) → FileTable
made_files packed = if packed then packed_files else sample_files

-- ---- laws

-- each sample is a document, at any resolution
abbrev pub SamplesAreDocuments : Type 0
SamplesAreDocuments = (n res : ℕ) → 1 ≤ n → n ≤ 1000 → 1 ≤ res
    → res ≤ MAX_RESOLUTION
    → (reading : Reading) × IsDocument res (sample_document n) reading

-- whose reading gives its units, pages and fonts
abbrev pub SamplesGiveBack : Type 0
SamplesGiveBack = (n res : ℕ) (reading : Reading) → 1 ≤ n → n ≤ 1000
    → IsDocument res (sample_document n) reading
    → GivesBack sample_units sample_fonts (sample_pages n) res reading

abbrev pub SamplesFit : Type 0
SamplesFit = (n : ℕ) → n ≤ 1000 → length (sample_document n) ≤ MAX_DOCUMENT_LENGTH

-- the files of the library by their names, and no other
abbrev pub FilesAreTheSix : Type 0
FilesAreTheSix =
    ((name : List ℕ) → get sample_files name ≡ find (slice_cmp nat_cmp) name named_files)
    × ((name : List ℕ) → get packed_files name
    ≡ find (slice_cmp nat_cmp) name (files_with packed_dot_pk packed_bar_pk))

-- the metrics are TFM files, which give the character 65 its width
abbrev pub MetricsAreRead : Type 0
MetricsAreRead =
    IsTfm duo_tfm × (tfm_width duo_tfm (pos 65) ≡ Some (pos 0x28000))
    × IsTfm dot_tfm × (tfm_width dot_tfm (pos 65) ≡ Some (pos 0x10000))
    × IsTfm bar_tfm × (tfm_width bar_tfm (pos 65) ≡ Some (pos 0x18000))

-- the virtual font is a VF file, which gives its two fonts and the commands of the character 65
abbrev pub VirtualFontIsRead : Type 0
VirtualFontIsRead = (items : List (List ℕ)) × IsVfFile duo_vf items
    × (locals_of items ≡ local_of (pos 0) dot ∷ local_of (pos 1) bar ∷ [])
    × (program_with items 65 ≡ Some (0x41 ∷ 0xac ∷ 0x41 ∷ []))

-- a PK file gives the character 65 a glyph, and no other character
abbrev pub GivesGlyph : List ℕ → Glyph → Type 0
GivesGlyph bytes glyph =
    (items : List (List ℕ)) × IsPkFile bytes items
    × ((c : ℕ) → IsAnswer items c (glyph_given ((65, glyph) ∷ []) c))

abbrev pub GlyphsAreRead : Type 0
GlyphsAreRead = GivesGlyph dot_pk dot_glyph × GivesGlyph bar_pk bar_glyph

-- the packed files give the same glyphs
abbrev pub PackedGlyphsAreRead : Type 0
PackedGlyphsAreRead = GivesGlyph packed_dot_pk dot_glyph × GivesGlyph packed_bar_pk bar_glyph
