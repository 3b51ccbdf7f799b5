-- A job before a run and after it.
use Rattle.std.specs.Prelude.{◌≡◌, ◌*◌, ◌/◌, ◌≤◌, ℕ, min, false, List, [], ◌∷◌, Option, Some, None, slice_index_or}
use Rattle.outside.specs.Counts.{Rose}
use Rattle.cache_core.specs.Views.{calls_of}
use Rattle.cache_core.specs.declared.calls.Call.{Call}
use Rattle.page_index.specs.Document.{IsDocument, pages_begun}
use Rattle.page_index.specs.Limits.{MAX_PAGES}
use Rattle.page_index.specs.Pages.{Indexed}
use Rattle.raster_page.specs.Limits.{MAX_PAGE_SIDE}
use Rattle.page_draw.specs.declared.sheet.Sheet.{Sheet}
use Rattle.command_line.specs.Limits.{MAX_ROOM}
use Rattle.command_line.specs.declared.settings.Settings.{Settings}
use Rattle.dvi_run.specs.Reading.{InputChange, ReadsGave, WasRead as InputWasRead, input_change, read_since}
use Rattle.dvi_run.specs.Pages.{Setup}
use Rattle.dvi_run.specs.Endings.{EndingValue, IsAmong, IsEnding, status_of}
use Rattle.dvi_run.specs.Looked.{IsIdle}
use Rattle.dvi_run.specs.Outside.{StreamChange, change_of}
use Rattle.job_spool.specs.declared.job.Job.{Job}
use Rattle.job_spool.specs.declared.numbers.SpoolNumbers.{SpoolNumbers}

-- ---- what a job is given

-- the default sheet of a resolution: 8.5 by 11 inches, but no side is longer than 20,000 dots, with
-- margins of one inch; a page isn't drawn past what it lacks
abbrev pub sheet_of : (res : ℕ) → Sheet
sheet_of res = record {
  width = min MAX_PAGE_SIDE (17 * res / 2);
  height = min MAX_PAGE_SIDE (11 * res);
  left = res;
  top = res;
  tolerant = false;
}

-- the settings of each job, as those of a run of its own
abbrev pub settings_for : SpoolNumbers → Settings
settings_for numbers = record {
  res = numbers.res;
  sheet = sheet_of numbers.res;
  workers = numbers.workers;
  cache = numbers.cache;
  room = MAX_ROOM;
  sample = None;
  packed = false;
  trace = false;
  summary = false;
}

-- ---- a job before and after

-- what is known of a job's streams
pub record JobView (I O : Type 0) : Type 1 where
  pub left : I → Option (List ℕ)
  pub taken : I → List ℕ
  pub ended : I → Type 0
  pub reads : I → ℕ
  pub written : O → Option (List ℕ)
  pub writes : O → ℕ

-- its streams before and after, and its status and its history afterwards
pub record JobChange : Type 1 where
  pub input : InputChange
  pub output : StreamChange
  pub status : ℕ
  pub history : List Call

abbrev pub job_input : {I O : Type 0} → JobView I O → (before after : Job I O) → InputChange
job_input view before after =
    input_change view.left view.taken view.ended view.reads before.input after.input

abbrev pub job_change : {I O : Type 0} → JobView I O → (before after : Job I O) → JobChange
job_change view before after =
    record {
      input = job_input view before after;
      output = change_of view.written view.writes before.out after.out;
      status = after.status;
      history = calls_of after.history.items;
    }

-- job k of some
abbrev pub jobs_change : {I O : Type 0} → JobView I O → (before after : List (Job I O)) → Job I O
    → ℕ → JobChange
jobs_change view before after d k =
    job_change view (slice_index_or before k d) (slice_index_or after k d)

-- ---- a job that was read

-- how a job ended that has no document, by its streams: it can't be read, the bytes that reads gave
-- aren't a document, or memory ran out
abbrev pub EndsUnread : {I O : Type 0} → JobView I O → Setup → (before after : Job I O)
    → EndingValue → Type 0
EndsUnread view g before after e =
    IsIdle e × IsEnding (view.written before.out) (view.written after.out)
    (Rose (view.writes before.out) (view.writes after.out)) (Unit {0}) (after.out ≡ before.out)
    (Rose (view.reads before.input) (view.reads after.input)) g
    (read_since (view.taken before.input) (view.taken after.input)) e
    × InputWasRead (job_input view before after) (IsAmong (status_of e) (6 ∷ 9 ∷ []))

-- whether the bytes that reads gave are a document. One that is to be drawn has the status 9 until
-- then
abbrev pub IsReadAs : {I O : Type 0} → JobView I O → Setup → (document : Option Indexed)
    → (before after : Job I O) → Type 0
IsReadAs view g None before after =
    (e : EndingValue) × (after.status ≡ status_of e) × EndsUnread view g before after e
IsReadAs view g (Some x) before after =
    (after.status ≡ 9) × (x.res ≡ g.res) × (pages_begun x.reading ≤ MAX_PAGES)
    × ((bytes : List ℕ) × ReadsGave (job_input view before after) bytes
    × IsDocument g.res bytes x.reading)

-- nothing was written yet
pub record WasRead {I O : Type 0} (view : JobView I O) (g : Setup) (document : Option Indexed)
    (before after : Job I O) : Type 0 where
  pub out : after.out ≡ before.out
  pub history : after.history ≡ before.history
  pub came : IsReadAs view g document before after
