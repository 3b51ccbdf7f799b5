use Rattle.repacked_fonts.proofs.Runs.{sample_runs_are_the_same, sample_runs_stop_alike, sample_runs_write_alike}
use Rattle.repacked_fonts.proofs.TwoSamples.{sample_fonts_are_decoded_alike, sample_pages_are_the_same, samples_differ_in_packing}
use Rattle.repacked_fonts.proofs.laws.samples.Goals as goal

pub returns : goal.returns
returns c = record {
  packing = samples_differ_in_packing;
  fonts = sample_fonts_are_decoded_alike;
  pages = sample_pages_are_the_same;
  runs = sample_runs_are_the_same;
  good = sample_runs_write_alike c.runs.ensures.good;
  stopped = sample_runs_stop_alike c.runs.ensures.stopped;
}
