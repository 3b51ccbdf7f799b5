-- The PK files of the two samples give the same glyphs.
use Rattle.std.proofs.Common.{◌≡◌, false, List, [], ◌∷◌, refl, ℕ}
use Rattle.pk_runs.specs.declared.glyph.Glyph.{Glyph}
use Rattle.pk_packer.specs.Choice.{plain_bytes, plain_pixels}
use Rattle.pk_packer.specs.Spelling.{number_text, text_length}
use Rattle.pk_packer.specs.Written.{pixel_rows, written_rows, written_runs}
use Rattle.font_decode.specs.Decoding.{is_too_long}
use Rattle.sample_maker.specs.Coded.{packed}
use Rattle.sample_maker.specs.PkFile.{file_in, glyph_given, packet_with, pk_items}
use Rattle.sample_maker.specs.Sample.{GivesGlyph, bar_glyph, bar_pk, dot_glyph, dot_pk, packed_bar_pk, packed_dot_pk}
use Rattle.sample_maker.proofs.PackedSample.{packed_glyphs_are_read}
use Rattle.sample_maker.proofs.SampleFonts.{bar_read, dot_read}
use Rattle.repacked_fonts.specs.Repacked.{GiveTheSame}

-- two files of one glyph
same_glyph : (g : Glyph) (bytes other : List ℕ) → GivesGlyph bytes g → GivesGlyph other g → is_too_long bytes ≡ false → is_too_long other ≡ false → GiveTheSame bytes other
same_glyph g bytes other p q short other_short = record {
  items = p.0;
  others = q.0;
  file = p.1;
  other_file = q.1;
  short = short;
  other_short = other_short;
  glyphs = λ c. (glyph_given ((65, g) ∷ []) c, p.2 c, q.2 c);
}

dot_short : is_too_long dot_pk ≡ false
unfolding dot_pk
dot_short = refl

bar_short : is_too_long bar_pk ≡ false
unfolding bar_pk
bar_short = refl

packed_dot_short : is_too_long packed_dot_pk ≡ false
unfolding packed_dot_pk file_in pk_items packet_with packed number_text text_length written_rows written_runs pixel_rows plain_bytes plain_pixels
packed_dot_short = refl

packed_bar_short : is_too_long packed_bar_pk ≡ false
unfolding packed_bar_pk file_in pk_items packet_with packed number_text text_length written_rows written_runs pixel_rows plain_bytes plain_pixels
packed_bar_short = refl

pub dot_repacked : GiveTheSame dot_pk packed_dot_pk
dot_repacked = same_glyph dot_glyph dot_pk packed_dot_pk dot_read packed_glyphs_are_read.0 dot_short packed_dot_short

pub bar_repacked : GiveTheSame bar_pk packed_bar_pk
bar_repacked = same_glyph bar_glyph bar_pk packed_bar_pk bar_read packed_glyphs_are_read.1 bar_short packed_bar_short
