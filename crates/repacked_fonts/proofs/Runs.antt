-- The pages of a document have the same values in runs over two libraries that differ in how rasters
-- are packed, and two runs of the sample wrote one text.
use Rattle.std.proofs.Common.{ℕ, suc, false, true, List, [], ◌∷◌, Some, refl}
use Rattle.outside.specs.Library.{FileTable}
use Rattle.page_index.specs.Document.{Reading}
use Rattle.page_index.specs.Pages.{document_units}
use Rattle.page_draw.specs.Values.{PageValue}
use Rattle.sample_maker.specs.Sample.{packed_files, sample_files}
use Rattle.command_line.specs.declared.settings.Settings.{Settings}
use Rattle.dvi_run.specs.Endings.{HoldsOfDocument}
use Rattle.dvi_run.specs.Laws.{GoodRunsWriteAlike, StoppedRunsWriteAlike}
use Rattle.dvi_run.specs.Pages.{HaveValues, IsRun, setup_with}
use Rattle.repacked_fonts.specs.Repacked.{DifferInPacking}
use Rattle.repacked_fonts.specs.Laws.{RepackedRunsAreTheSame, SampleRunsAreTheSame, SampleRunsStopAlike, SampleRunsWriteAlike, sample_setup}
use Rattle.repacked_fonts.proofs.Fonts.{back}
use Rattle.repacked_fonts.proofs.Pages.{repacked_pages_are_the_same}
use Rattle.repacked_fonts.proofs.TwoSamples.{samples_differ_in_packing}

module _ (l m : FileTable) (alike : DifferInPacking l m) (s : Settings) (reading : Reading) where
  have_values : (i : ℕ) (values : List PageValue) → HaveValues (setup_with (Some l) s) reading i values → HaveValues (setup_with (Some m) s) reading i values
  have_values i [] h = tt
  have_values i (value ∷ values) h = (
    (h.0.0, (repacked_pages_are_the_same l m alike (document_units s.res reading) (record { res = s.res; reading = reading }) s.sheet i value h.0.0).0 h.0.1),
    have_values (suc i) values h.1,
  )

  run : (bytes : List ℕ) (values : List PageValue) → IsRun (setup_with (Some l) s) bytes reading values → IsRun (setup_with (Some m) s) bytes reading values
  run bytes values h = record { document = h.document; pages = record { few = h.pages.few; are = have_values 0 values h.pages.are } }

pub repacked_runs_are_the_same : RepackedRunsAreTheSame
repacked_runs_are_the_same l m alike s bytes reading values = (run l m alike s reading bytes values, run m l (back l m alike) s reading bytes values)

pub sample_runs_are_the_same : SampleRunsAreTheSame
sample_runs_are_the_same = repacked_runs_are_the_same sample_files packed_files samples_differ_in_packing

-- what holds of a run of the plain sample holds of one of the packed sample
packed_run : (s : Settings) (bytes : List ℕ) (P : Reading → List PageValue → Type 0) → HoldsOfDocument (sample_setup false s) bytes P → HoldsOfDocument (sample_setup true s) bytes P
packed_run s bytes P h = (h.0, h.1, (sample_runs_are_the_same s bytes h.0 h.1).0 h.2, h.3)

pub sample_runs_write_alike : GoodRunsWriteAlike → SampleRunsWriteAlike
sample_runs_write_alike good s bytes old new other later plain packed =
    good (sample_setup true s) packed_files bytes old new other later refl (packed_run s bytes _ plain) packed

pub sample_runs_stop_alike : StoppedRunsWriteAlike → SampleRunsStopAlike
sample_runs_stop_alike stopped s bytes old new other later p q plain packed =
    stopped (sample_setup true s) packed_files bytes old new other later p q refl (packed_run s bytes _ plain) packed
