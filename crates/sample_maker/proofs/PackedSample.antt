-- The glyphs of the sample, packed and read again.
use Rattle.std.proofs.Common.{◌≡◌, ℕ, zero, suc, ◌<◌, ◌≤◌, pos, true, false, List, [], ◌∷◌, length, get_or, refl, sym, subst, arith}
use Rattle.std.specs.Prelude.{All}
use Rattle.packed_rows.specs.Bitmap.{IsShaped}
use Rattle.pk_runs.specs.Limits.{MAX_RASTER_BYTES}
use Rattle.pk_runs.specs.declared.glyph.Glyph.{Glyph}
use Rattle.pk_packer.specs.Choice.{plain_bytes, plain_pixels}
use Rattle.pk_packer.specs.Spelling.{number_text, text_length}
use Rattle.pk_packer.specs.Written.{pixel_rows, written_rows, written_runs}
use Rattle.pk_packer.proofs.Chosen.{runs_again}
use Rattle.pk_packer.proofs.PlainBits.{length_of_bytes, raster_again}
use Rattle.pk_packer.proofs.PlainLaws.{by_pixels}
use Rattle.sample_maker.specs.Coded.{Coded, StandsFor, by_bitmap, packed}
use Rattle.sample_maker.specs.PkFile.{IsBounded, IsMeasured, size_sum}
use Rattle.sample_maker.specs.Sample.{GivesGlyph, PackedGlyphsAreRead, bar_glyph, dot_glyph, packed_bar_pk, packed_dot_pk}
use Rattle.sample_maker.specs.declared.coded.Coding.TheVariants as coding
use Rattle.sample_maker.proofs.PkRead.{after, glyphs_again, is_file}

abbrev alone : Glyph → List (ℕ × Glyph)
alone g = (65, g) ∷ []

one_of_all : (P : ℕ × Glyph → Type 0) (p : ℕ × Glyph) → P p → All P (p ∷ [])
one_of_all P p h zero d lt = h
one_of_all P p h (suc k) d lt = absurd (omega (arith, lt))

-- ---- the square, as one run

dot_columns : (y : ℕ) → y < 2 → length (get_or dot_glyph.raster.rows y []) ≡ 2
dot_columns zero h = refl
dot_columns (suc zero) h = refl
dot_columns (suc (suc y)) h = absurd (omega (arith, h))

dot_shaped : IsShaped dot_glyph.raster
dot_shaped = record { rows = refl; columns = dot_columns }

abbrev dot_runs : Coded
dot_runs = record { dyn_f = 4; first_black = true; bytes = 0x40 ∷ [] }

dot_packed : packed dot_glyph.raster ≡ dot_runs
unfolding packed number_text text_length written_rows written_runs pixel_rows plain_bytes plain_pixels
dot_packed = refl

dot_stands : StandsFor dot_runs dot_glyph.raster
unfolding number_text written_rows written_runs pixel_rows
dot_stands = record {
  dyn_f = omega arith;
  few = omega arith;
  raster = by_pixels (0x40 ∷ []) 4 true dot_glyph.raster dot_shaped (runs_again dot_glyph.raster 4 true (0x40 ∷ []) (omega arith) refl refl);
}

dot_bounded : IsBounded dot_glyph
dot_bounded = record { width = omega arith; height = omega arith; shaped = dot_shaped; hoff = omega arith; voff = omega arith }

dot_measured : IsMeasured coding.Packed (65, dot_glyph)
dot_measured = record { code = omega arith; glyph = dot_bounded; raster = subst (λ (c : Coded). StandsFor c dot_glyph.raster) (sym dot_packed) dot_stands }

dot_again : GivesGlyph packed_dot_pk dot_glyph
unfolding packed_dot_pk
dot_again =
    let all = one_of_all (IsMeasured coding.Packed) (65, dot_glyph) dot_measured in
    let few : size_sum (alone dot_glyph) ≤ MAX_RASTER_BYTES = omega arith in
    let file = is_file coding.Packed (alone dot_glyph) all refl few in
    (after coding.Packed [] (alone dot_glyph), file, glyphs_again coding.Packed (alone dot_glyph) all refl few (after coding.Packed [] (alone dot_glyph)) file)

-- ---- the other one, as a bitmap

bar_columns : (y : ℕ) → y < 4 → length (get_or bar_glyph.raster.rows y []) ≡ 3
bar_columns zero h = refl
bar_columns (suc zero) h = refl
bar_columns (suc (suc zero)) h = refl
bar_columns (suc (suc (suc zero))) h = refl
bar_columns (suc (suc (suc (suc y)))) h = absurd (omega (arith, h))

bar_shaped : IsShaped bar_glyph.raster
bar_shaped = record { rows = refl; columns = bar_columns }

bar_packed : packed bar_glyph.raster ≡ by_bitmap bar_glyph.raster
unfolding packed number_text text_length written_rows written_runs pixel_rows plain_bytes plain_pixels
bar_packed = refl

bar_stands : StandsFor (by_bitmap bar_glyph.raster) bar_glyph.raster
bar_stands = record {
  dyn_f = omega arith;
  few = omega (arith, length_of_bytes bar_glyph.raster);
  raster = by_pixels (plain_bytes bar_glyph.raster) 14 false bar_glyph.raster bar_shaped (raster_again bar_glyph.raster false);
}

bar_bounded : IsBounded bar_glyph
bar_bounded = record { width = omega arith; height = omega arith; shaped = bar_shaped; hoff = omega arith; voff = omega arith }

bar_measured : IsMeasured coding.Packed (65, bar_glyph)
bar_measured = record { code = omega arith; glyph = bar_bounded; raster = subst (λ (c : Coded). StandsFor c bar_glyph.raster) (sym bar_packed) bar_stands }

bar_again : GivesGlyph packed_bar_pk bar_glyph
unfolding packed_bar_pk
bar_again =
    let all = one_of_all (IsMeasured coding.Packed) (65, bar_glyph) bar_measured in
    let few : size_sum (alone bar_glyph) ≤ MAX_RASTER_BYTES = omega arith in
    let file = is_file coding.Packed (alone bar_glyph) all refl few in
    (after coding.Packed [] (alone bar_glyph), file, glyphs_again coding.Packed (alone bar_glyph) all refl few (after coding.Packed [] (alone bar_glyph)) file)

pub packed_glyphs_are_read : PackedGlyphsAreRead
packed_glyphs_are_read = (dot_again, bar_again)
