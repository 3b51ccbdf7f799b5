-- What a run is given by its settings. Where they ask for the sample, its document and its font
-- files are the sample's, packed or not, and neither the input nor the sources that were handed in
-- are used; else it is what these tell.
use Rattle.std.specs.Prelude.{◌≡◌, ℕ, Bool, List, [], ◌∷◌, Option, Some, None, slice_index_or}
use Rattle.outside.specs.Library.{FileTable}
use Rattle.font_decode.specs.Desks.{Loaded}
use Rattle.font_decode.specs.Loads.{RoseUpTo}
use Rattle.sample_maker.specs.Sample.{made_files, sample_document}
use Rattle.page_workers.specs.declared.worker.Worker.{Worker}
use Rattle.command_line.specs.declared.settings.Settings.{Settings}
use Rattle.dvi_run.specs.Pages.{Setup, setup_with}
use Rattle.dvi_run.specs.Endings.{IsAmong}

-- ---- by how many pages a sample is asked for, if one is

-- the font files, where they are known
abbrev pub library_for_sample : (packed : Bool) → Option ℕ → Option FileTable → Option FileTable
library_for_sample packed None known = known
library_for_sample packed (Some pages) known = Some (made_files packed)

-- the bytes of the document, where they are known
abbrev pub document_for_sample : Option ℕ → Option (List ℕ) → Option (List ℕ)
document_for_sample None known = known
document_for_sample (Some pages) known = Some (sample_document pages)

-- the input or a source failed, of which a run of the sample uses none
abbrev pub FailedForSample : Option ℕ → Type 0 → Type 0
FailedForSample None Failed = Failed
FailedForSample (Some pages) Failed = ⊥

-- how many files a worker loaded: n at most, and its source counts as many, other than for
-- the sample, whose files are loaded from a source of the run's own
abbrev pub LoadedForSample : Option ℕ → (most before now count count_now : ℕ) → Type 0
LoadedForSample None most before now count count_now = Loaded most before now count count_now
LoadedForSample (Some pages) most before now count count_now = RoseUpTo most count count_now

-- ---- by the settings

abbrev pub setup_for_settings : (known : Option FileTable) → Settings → Setup
setup_for_settings known s = setup_with (library_for_sample s.packed s.sample known) s

abbrev pub document_for_settings : Settings → (known : Option (List ℕ)) → Option (List ℕ)
document_for_settings s known = document_for_sample s.sample known

abbrev pub FailedForSettings : Settings → Type 0 → Type 0
FailedForSettings s Failed = FailedForSample s.sample Failed

-- ---- a run of the sample

-- all sources are as they were
abbrev pub SourcesAreKept : {F : Type 0} → (before after : List (Worker F)) → Type 0
SourcesAreKept {F} before after = (k : ℕ) (d : Worker F)
    → (slice_index_or after k d).source ≡ (slice_index_or before k d).source

-- Nothing was read of the input, no file was loaded from a source that was handed in, and so
-- neither the document is at fault nor did they fail.
pub record UsesTheSample {F : Type 0} (status : ℕ) (InputKept : Type 0)
    (before after : List (Worker F)) : Type 0 where
  pub input : InputKept
  pub sources : SourcesAreKept before after
  -- never 2, 5 or 6
  pub answers : IsAmong status (0 ∷ 3 ∷ 4 ∷ 7 ∷ 8 ∷ 9 ∷ [])

-- what a worker of the run's own drew, and how often it loaded, was handed to this one, which is
-- the same else, and altogether where that is nothing
pub record TookResults {F G : Type 0} (own : Worker G) (before after : Worker F) : Type 0 where
  pub source : after.source ≡ before.source
  pub seat : after.seat ≡ before.seat
  pub results : after.results ≡ before.results
  pub counter : after.counter ≡ before.counter
  pub spare_pages : after.spare_pages ≡ before.spare_pages
  pub loads : after.loads ≡ own.loads
  pub pages : after.pages.items ≡ own.pages.items
  pub same : own.pages.items ≡ [] → own.loads ≡ before.loads → after ≡ before
