-- The font files of the sample, read.
use Rattle.std.proofs.Common.{◌≡◌, ℕ, ◌<◌, ◌≤◌, ℤ, pos, Bool, true, false, List, [], ◌∷◌, Some, None, refl, arith, inl, inr}
use Rattle.std.specs.Prelude.{codes, ◌==◌, if◌then◌else◌}
use Rattle.std.specs.List.{AllByRecursion}
use Rattle.std.specs.FinMap.{get-from_entries}
use Rattle.std.proofs.lemmas.Int.{ints}
use Rattle.std.specs.Cmp.Lexicographic.{nat_list_cmp_total}
use Rattle.dvi_commands.specs.Spelling.{Font, Set}
use Rattle.pk_runs.specs.Numbers.{Item, Repeat, Run, SpellsItem, SpellsItems}
use Rattle.pk_runs.specs.Raster.{ItemsFit}
use Rattle.pk_runs.specs.declared.glyph.Glyph.{Glyph}
use Rattle.pk_packets.specs.Fonts.{HasRaster, IsAnswer, IsGlyphFor, IsGlyphOf}
use Rattle.fix_word.specs.FixWords.{IsFixWord}
use Rattle.tfm_reader.specs.Right.{IsTfm}
use Rattle.tfm_reader.specs.Tfm.{tfm_width}
use Rattle.vf_reader.specs.Fonts.{IsVfFile}
use Rattle.sample_maker.specs.PkFile.{glyph_given}
use Rattle.sample_maker.specs.TfmFile.{tfm_file}
use Rattle.sample_maker.specs.VfFile.{packet_item, vf_file, vf_items}
use Rattle.sample_maker.specs.Sample.{FilesAreTheSix, GivesGlyph, MetricsAreRead, VirtualFontIsRead, bar_glyph, bar_pk, bar_tfm, dot_glyph, dot_pk, dot_tfm, duo_tfm, duo_vf, files_with, named_files, packed_bar_pk, packed_dot_pk, packed_files, sample_files}
use Rattle.sample_maker.proofs.TfmRead.{file_sound, widths_read}

pub six_files : FilesAreTheSix
unfolding sample_files packed_files
six_files = (get-from_entries nat_list_cmp_total named_files, get-from_entries nat_list_cmp_total (files_with packed_dot_pk packed_bar_pk))

-- ---- metrics

abbrev one_width : ℤ → List (ℕ × ℤ)
one_width width = (65, width) ∷ []

fix_word : (width : ℕ) → width < 0x1000000 → AllByRecursion (λ (pair : ℕ × ℤ). IsFixWord pair.1) (one_width (pos width))
fix_word width few = ((omega (arith, ints, few), omega (arith, ints, few)), tt)

one_sound : (width : ℕ) → width < 0x1000000 → IsTfm (tfm_file (one_width (pos width)))
one_sound width few = file_sound (one_width (pos width)) (omega arith) (omega arith) (omega arith) refl (fix_word width few)

one_read : (width : ℕ) → width < 0x1000000 → tfm_width (tfm_file (one_width (pos width))) (pos 65) ≡ Some (pos width)
one_read width few = widths_read (one_width (pos width)) (omega arith) (omega arith) (omega arith) refl (fix_word width few) (pos 65)

pub metrics_read : MetricsAreRead
unfolding duo_tfm dot_tfm bar_tfm
metrics_read = (
  one_sound 0x28000 (omega arith),
  one_read 0x28000 (omega arith),
  one_sound 0x10000 (omega arith),
  one_read 0x10000 (omega arith),
  one_sound 0x18000 (omega arith),
  one_read 0x18000 (omega arith),
)

-- ---- the virtual font

dot_item : List ℕ
dot_item = 0xf3 ∷ 0 ∷ 0 ∷ 0 ∷ 0 ∷ 0 ∷ 0x00 ∷ 0x10 ∷ 0x00 ∷ 0x00 ∷ 0x00 ∷ 0xf6 ∷ 0xae ∷ 0x7d ∷ 0 ∷ 3 ∷ codes "dot"

bar_item : List ℕ
bar_item = 0xf3 ∷ 1 ∷ 0 ∷ 0 ∷ 0 ∷ 0 ∷ 0x00 ∷ 0x10 ∷ 0x00 ∷ 0x00 ∷ 0x00 ∷ 0xf6 ∷ 0xae ∷ 0x7d ∷ 0 ∷ 3 ∷ codes "bar"

packet : List ℕ
packet = 3 ∷ 0x41 ∷ 0x02 ∷ 0x80 ∷ 0x00 ∷ 0x41 ∷ 0xac ∷ 0x41 ∷ []

duo_items : List (List ℕ)
duo_items = packet ∷ bar_item ∷ dot_item ∷ []

duo_is : IsVfFile duo_vf duo_items
unfolding duo_vf vf_file vf_items packet_item duo_items dot_item bar_item packet
duo_is = record {
  begins = refl;
  sound = (
    (
      (
        tt,
        record { known = omega arith; whole = refl },
        record { packet = λ is. cc; local = λ is. refl },
      ),
      record { known = omega arith; whole = refl },
      record { packet = λ is. cc; local = λ is. refl },
    ),
    record { known = omega arith; whole = refl },
    record {
      packet = λ is. (
        Set (pos 65) ∷ Font (pos 1) ∷ Set (pos 65) ∷ [],
        (
          0x41 ∷ [],
          0xac ∷ 0x41 ∷ [],
          record { whole = refl; spelled = (0, omega arith, refl); allowed = refl },
          refl,
          (
            0xac ∷ [],
            0x41 ∷ [],
            record { whole = refl; spelled = (0, omega arith, refl); allowed = refl },
            refl,
            (
              0x41 ∷ [],
              [],
              record { whole = refl; spelled = (0, omega arith, refl); allowed = refl },
              refl,
              (refl, refl),
            ),
          ),
        ),
      );
      local = λ is. cc;
    },
  );
  unused = 0xf8 ∷ 0xf8 ∷ [];
  whole = refl;
}

pub virtual_read : VirtualFontIsRead
unfolding duo_items dot_item bar_item packet
virtual_read = (duo_items, duo_is, refl, refl)

-- ---- glyphs

-- the answers of a file with one packet
answer_of : (b : Bool) (packet : List ℕ) (g : Glyph) → IsGlyphOf packet g → IsGlyphFor (if b then Some packet else None) (if b then Some g else None)
answer_of true packet g h = (g, refl, h)
answer_of false packet g h = refl

dot_packet : List ℕ
dot_packet = 0xe0 ∷ 0x09 ∷ 0x41 ∷ 0x01 ∷ 0x00 ∷ 0x00 ∷ 0x04 ∷ 0x02 ∷ 0x02 ∷ 0x00 ∷ 0x01 ∷ 0xf0 ∷ []

dot_raster : HasRaster dot_packet dot_glyph.raster
unfolding dot_packet
dot_raster = (dot_glyph.raster.rows, refl, (omega arith, refl))

dot_answers : (c : ℕ) → IsAnswer (dot_packet ∷ []) c (glyph_given ((65, dot_glyph) ∷ []) c)
unfolding dot_packet
dot_answers c = answer_of (65 == c) dot_packet dot_glyph (record { raster = dot_raster; hoff = refl; voff = refl })

pub dot_read : GivesGlyph dot_pk dot_glyph
unfolding dot_pk dot_packet
dot_read = (
  dot_packet ∷ [],
  record {
    begins = refl;
    sound = (tt, record { known = omega arith; not_closing = refl; whole = refl }, λ is. (refl, dot_glyph.raster, dot_raster));
    unused = [];
    whole = refl;
  },
  dot_answers,
)

bar_packet : List ℕ
bar_packet = 0xa8 ∷ 0x0b ∷ 0x41 ∷ 0x01 ∷ 0x80 ∷ 0x00 ∷ 0x06 ∷ 0x03 ∷ 0x04 ∷ 0x00 ∷ 0x03 ∷ 0xe2 ∷ 0x11 ∷ 0x40 ∷ []

abbrev bar_runs : List Item
bar_runs = Run 4 ∷ Run 1 ∷ Run 1 ∷ Repeat 2 ∷ []

-- a run of one nybble
run_spelled : (n : ℕ) → 1 ≤ n → n ≤ 10 → SpellsItem 10 (n ∷ []) (Run n)
run_spelled n some few = inl (n, refl, some, few, refl)

bar_spelled : SpellsItems 10 (14 ∷ 2 ∷ 1 ∷ 1 ∷ 4 ∷ []) bar_runs
bar_spelled = (
  14 ∷ 2 ∷ 1 ∷ 1 ∷ [],
  4 ∷ [],
  refl,
  (
    14 ∷ 2 ∷ 1 ∷ [],
    1 ∷ [],
    refl,
    (
      14 ∷ 2 ∷ [],
      1 ∷ [],
      refl,
      ([], 14 ∷ 2 ∷ [], refl, refl, inr (2 ∷ [], refl, inl (2, refl, omega arith, omega arith, refl))),
      run_spelled 1 (omega arith) (omega arith),
    ),
    run_spelled 1 (omega arith) (omega arith),
  ),
  run_spelled 4 (omega arith) (omega arith),
)

bar_fits : ItemsFit 3 4 bar_runs
bar_fits = ((((tt, omega arith, (refl, omega arith)), omega arith, omega arith), omega arith, omega arith), omega arith, omega arith)

bar_raster : HasRaster bar_packet bar_glyph.raster
unfolding bar_packet
bar_raster = (
  bar_glyph.raster.rows,
  refl,
  record {
    items = bar_runs;
    used = 14 ∷ 2 ∷ 1 ∷ 1 ∷ 4 ∷ [];
    unused = 0 ∷ [];
    nybbles = refl;
    spelled = bar_spelled;
    fits = bar_fits;
    complete = refl;
    stand = refl;
  },
)

bar_answers : (c : ℕ) → IsAnswer (bar_packet ∷ []) c (glyph_given ((65, bar_glyph) ∷ []) c)
unfolding bar_packet
bar_answers c = answer_of (65 == c) bar_packet bar_glyph (record { raster = bar_raster; hoff = refl; voff = refl })

pub bar_read : GivesGlyph bar_pk bar_glyph
unfolding bar_pk bar_packet
bar_read = (
  bar_packet ∷ [],
  record {
    begins = refl;
    sound = (tt, record { known = omega arith; not_closing = refl; whole = refl }, λ is. (refl, bar_glyph.raster, bar_raster));
    unused = 0xf6 ∷ 0xf6 ∷ [];
    whole = refl;
  },
  bar_answers,
)
