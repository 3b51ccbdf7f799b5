-- What is true of fonts whose rasters are packed in another way, and of the two samples.
use Rattle.std.specs.Prelude.{◌≡◌, ◌↔◌, ℕ, Bool, true, false, List, Option, Some}
use Rattle.outside.specs.Library.{FileTable}
use Rattle.outside.specs.declared.keys.FontKey.{FontKey}
use Rattle.pixel_round.specs.declared.units.Units.{Units}
use Rattle.page_index.specs.Document.{Reading}
use Rattle.page_index.specs.Pages.{Indexed}
use Rattle.font_decode.specs.Decoding.{IsFontIn, IsFontOf}
use Rattle.font_decode.specs.declared.font_or_fault.Decoded.{Decoded}
use Rattle.sample_maker.specs.Sample.{made_files, packed_files, sample_files}
use Rattle.page_draw.specs.Drawn.{IsPageValue}
use Rattle.page_draw.specs.Values.{PageValue}
use Rattle.page_draw.specs.declared.sheet.Sheet.{Sheet}
use Rattle.command_line.specs.declared.settings.Settings.{Settings}
use Rattle.dvi_run.specs.Endings.{HoldsOfDocument, Stopped, Wrote}
use Rattle.dvi_run.specs.Laws.{GrewAlike}
use Rattle.dvi_run.specs.Pages.{FailingPage, IsRun, Setup, setup_with}
use Rattle.repacked_fonts.specs.Repacked.{DifferInPacking}

-- a key has one decoding in both libraries
abbrev pub AreDecodedAlike : FileTable → FileTable → Type 0
AreDecodedAlike l m = (u : Units) (k : FontKey) (d : Decoded) → IsFontIn l u k d ↔ IsFontIn m u k d

-- a page has one value over both, and the same keys are looked up
abbrev pub PagesAreTheSame : FileTable → FileTable → Type 0
PagesAreTheSame l m =
    (units : Option Units) (indexed : Indexed) (sheet : Sheet) (i : ℕ) (value : PageValue)
    (looks : List FontKey)
    → IsPageValue (IsFontOf (Some l) units) indexed sheet i value looks
    ↔ IsPageValue (IsFontOf (Some m) units) indexed sheet i value looks

-- a document's pages have the same values in runs over both
abbrev pub RunsAreTheSame : FileTable → FileTable → Type 0
RunsAreTheSame l m =
    (s : Settings) (bytes : List ℕ) (reading : Reading) (values : List PageValue)
    → IsRun (setup_with (Some l) s) bytes reading values
    ↔ IsRun (setup_with (Some m) s) bytes reading values

abbrev pub RepackedFontsAreDecodedAlike : Type 0
RepackedFontsAreDecodedAlike = (l m : FileTable) → DifferInPacking l m → AreDecodedAlike l m

abbrev pub RepackedPagesAreTheSame : Type 0
RepackedPagesAreTheSame = (l m : FileTable) → DifferInPacking l m → PagesAreTheSame l m

abbrev pub RepackedRunsAreTheSame : Type 0
RepackedRunsAreTheSame = (l m : FileTable) → DifferInPacking l m → RunsAreTheSame l m

-- ---- the samples

abbrev pub SamplesDifferInPacking : Type 0
SamplesDifferInPacking = DifferInPacking sample_files packed_files

abbrev pub SampleFontsAreDecodedAlike : Type 0
SampleFontsAreDecodedAlike = AreDecodedAlike sample_files packed_files

abbrev pub SamplePagesAreTheSame : Type 0
SamplePagesAreTheSame = PagesAreTheSame sample_files packed_files

abbrev pub SampleRunsAreTheSame : Type 0
SampleRunsAreTheSame = RunsAreTheSame sample_files packed_files

-- what a run of either sample is given
abbrev pub sample_setup : (packed : Bool) → Settings → Setup
sample_setup packed s = setup_with (Some (made_files packed)) s

-- two runs with the same resolution and sheet, one of the plain and one of the packed sample, that
-- end well wrote one text
abbrev pub SampleRunsWriteAlike : Type 0
SampleRunsWriteAlike =
    (s : Settings) (bytes : List ℕ) (old new other later : Option (List ℕ))
    → HoldsOfDocument (sample_setup false s) bytes (Wrote old new)
    → HoldsOfDocument (sample_setup true s) bytes (Wrote other later)
    → GrewAlike old new other later

-- and those that end at a page without a bitmap end at the same one, and wrote one text
abbrev pub SampleRunsStopAlike : Type 0
SampleRunsStopAlike =
    (s : Settings) (bytes : List ℕ) (old new other later : Option (List ℕ)) (p q : FailingPage)
    → HoldsOfDocument (sample_setup false s) bytes (λ _. Stopped old new p)
    → HoldsOfDocument (sample_setup true s) bytes (λ _. Stopped other later q)
    → (p ≡ q) × GrewAlike old new other later
