use Rattle.sample_maker.proofs.PackedSample.{packed_glyphs_are_read}
use Rattle.sample_maker.proofs.SampleFonts.{bar_read, dot_read, metrics_read, six_files, virtual_read}
use Rattle.sample_maker.proofs.laws.font_files.Goals as goal

pub returns : goal.returns
returns c = record { six = six_files; metrics = metrics_read; virtual_font = virtual_read; glyphs = (dot_read, bar_read); packed = packed_glyphs_are_read }
