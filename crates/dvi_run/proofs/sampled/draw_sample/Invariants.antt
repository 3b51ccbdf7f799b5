use Rattle.std.proofs.Common.{Some}
use Rattle.sample_maker.specs.Sample.{made_files}
use Rattle.dvi_run.proofs.sampled.draw_sample.Given as goal

abbrev pub ghost-draw_document : goal.ghost-draw_document
ghost-draw_document g a = Some (made_files a.settings.now.packed)
