-- A run over workers: what each of them did, and how their calls make one history.
use Rattle.std.specs.Prelude.{◌≡◌, ◌⊎◌, ℕ, ◌+◌, ◌*◌, ◌<◌, ◌≤◌, List, [], ◌∷◌, Option, Some, None, IfSome, slice_index_or}
use Rattle.outside.specs.Counts.{Rose}
use Rattle.outside.specs.Library.{FileTable}
use Rattle.outside.specs.declared.keys.FontKey.{FontKey}
use Rattle.cache_core.specs.declared.calls.Call.{Call}
use Rattle.cache_core.specs.Histories.{AllWeigh, WeighSo, own, SeatCalls, NoneReleased}
use Rattle.cache_core.specs.Laws.{FewClaims}
use Rattle.cache_core.specs.Machine.{Legal}
use Rattle.cache_core.specs.Solo.{solo_history}
use Rattle.turn_lock.specs.Histories.{AllMade}
use Rattle.font_decode.specs.Desks.{ReleasedLast, misses}
use Rattle.font_decode.specs.Loads.{MAX_LOADS}
use Rattle.font_decode.specs.Weights.{IsWeightOf}
use Rattle.page_index.specs.Document.{Reading, pages_begun}
use Rattle.page_index.specs.Pages.{document_units}
use Rattle.page_draw.specs.Values.{DrawnValue, PageValue}
use Rattle.page_workers.specs.SparePages.{HasNoSparePages}
use Rattle.page_workers.specs.declared.worker.Worker.{Worker}
use Rattle.command_line.specs.declared.settings.Settings.{Settings}
use Rattle.dvi_run.specs.CacheLimits.{cache_limits}
use Rattle.dvi_run.specs.Pages.{AreValues, finding}
use Rattle.dvi_run.specs.Endings.{EndingValue, Source, EndsPages, IsAmong, HoldsOfDocument, WroteAll, status_of}
use Rattle.dvi_run.specs.Looked.{BrokenLooks, EndsBroken, EveryPageCameToItsEnd, IsIdle, MayBreakOff, WasNotCutOffBy, WholeLooks}
use Rattle.dvi_run.specs.Rounds.{FailedAt, IsFresh, LoadsAreOf, WorkerRan, indexed_of}
use Rattle.dvi_run.specs.Shares.{PartitionPages, WorkersDrew}
use Rattle.dvi_run.specs.Tally.{CountsTo, TallyMatchesRun}
use Rattle.dvi_run.specs.Sampled.{LoadedForSample}
use Rattle.dvi_run.specs.Noted.{NotedLacks, is_noted}
use Rattle.dvi_run.specs.Outside.{Drawing, FaultsRose, Sources, StreamChange, Task, setup_of}
use Rattle.dvi_run.specs.declared.tally.Tally.{Tally}

-- ---- the workers that a run uses: the first n of them

module _ {F : Type 0} (n : ℕ) (before after : List (Worker F)) where
  -- each of them, before and after the run
  abbrev pub EachUsed : (ℕ → Worker F → Worker F → Type 0) → Type 0
  EachUsed P = (k : ℕ) (d : Worker F) → k < n → P k (slice_index_or before k d)
      (slice_index_or after k d)

  -- one of them
  abbrev pub SomeUsed : (Worker F → Worker F → Type 0) → Type 0
  SomeUsed P = (k : ℕ) × (k < n) × ((d : Worker F) → P (slice_index_or before k d)
      (slice_index_or after k d))

  -- the others are as they were
  abbrev pub RestIsKept : Type 0
  RestIsKept = (k : ℕ) (d : Worker F) → n ≤ k → slice_index_or after k d ≡ slice_index_or before k d

-- the source of a worker rose in its faults
abbrev pub SourceRose : {F : Type 0} → (F → ℕ) → Worker F → Worker F → Type 0
SourceRose faults before after = Rose (faults before.source) (faults after.source)

-- a worker that a run may use: it has no seat, and was not used yet, and where the run is known a
-- library its source has it
pub record IsReadyWorker {F : Type 0} (library : F → Option FileTable) (known : Option FileTable)
    (w : Worker F) : Type 0 where
  pub fresh : IsFresh library known w
  pub seat : w.seat ≡ None

-- ---- by the status of the run

-- each page that was drawn came to its end: all were written, or there is one worker, and neither
-- its source failed nor was memory wanting
abbrev pub EveryPageCameToItsEndBy : (n status : ℕ) → Type 0
EveryPageCameToItsEndBy n status = WroteAll status ⊎ ((n ≡ 1) × WasNotCutOffBy status)

-- ---- the history

-- the calls of the cache in a run with such settings, by its status
pub record IsOneHistory (settings : Settings) (status : ℕ) (history : List Call) : Type 0 where
  -- it is legal for the capacity and the budget
  pub legal : Legal (cache_limits settings) history
  -- each call is of a used worker's seat, and these are numbered from 1
  pub made : AllMade (settings.workers + 1) history
  pub none_of_first : own 0 history ≡ []
  -- a key is claimed at most once more than it left or was given up
  pub few_claims : FewClaims history
  -- 0 and 8: no claim was given up
  pub kept : WroteAll status → NoneReleased history
  -- 1, 2 and 6: there is no call
  pub idle : IsAmong status (1 ∷ 2 ∷ 6 ∷ []) → history ≡ []

-- What a used worker did, by the calls of its seat, in a run of the sample or of what the outside
-- gives.
pub record WorkerDone {F : Type 0} (task : Task) (sources : Sources F) (status : ℕ)
    (calls : List Call) (before after : Worker F) : Type 0 where
  -- it has neither a seat nor a result any more, and no spare page, unless it had some before
  pub seat : after.seat ≡ None
  pub none : after.results.items ≡ []
  pub counter : after.counter ≡ None
  pub spare_pages : HasNoSparePages before → HasNoSparePages after
  -- its source has the library that the run knows, and its count of faults didn't fall
  pub knows_library : IfSome task.known (λ l. sources.library after.source ≡ Some l)
  pub count : sources.faults before.source ≤ sources.faults after.source
  -- each of its calls is there once: they answer the keys that it asked for, one after another
  pub keys : List FontKey
  pub answered : SeatCalls keys calls
  -- a claim is given up at their end alone, and nowhere in a run that ends well
  pub last : ReleasedLast calls
  pub kept : EveryPageCameToItsEndBy task.settings.workers status → NoneReleased calls
  -- it loaded at most eight files for each look that was no hit, and its source counts as many,
  -- other than for the sample
  pub loaded : LoadedForSample task.settings.sample (MAX_LOADS * misses calls)
      (sources.loads before.source) (sources.loads after.source) before.loads after.loads

-- A claim is given up only by a worker whose last page was broken off, which is one that may have
-- been in a run that ended so.
abbrev pub GaveUpOnlyBroken : {F : Type 0} → EndingValue → Option Tally → (calls : List Call)
    → (after : Worker F) → Type 0
GaveUpOnlyBroken e tally calls after =
    NoneReleased calls ⊎ EndsBroken (MayBreakOff e tally) after.pages.items

-- how a run ended, with its status, and what it wrote whole
pub record RunEnd : Type 0 where
  pub status : ℕ
  pub ending : EndingValue
  pub tally : Option Tally

abbrev pub run_end : ℕ → EndingValue → Option Tally → RunEnd
run_end status e tally = record { status = status; ending = e; tally = tally }

-- the calls of a used worker's seat answer the look-ups of the pages that it drew, one page after
-- another; its place among the workers is counted from 0
pub record Answered {F : Type 0} (task : Task) (reading : Reading) (history : List Call)
    (end : RunEnd) (place : ℕ) (after : Worker F) : Type 0 where
  pub keys : List FontKey
  -- all look-ups of each page, and no claim is given up; or the last page was broken off, and its
  -- look-ups are the first ones: it was neither written nor named with its fault, nor did its write
  -- fail
  pub looked : (NoneReleased (own (place + 1) history)
      × WholeLooks (finding (setup_of task) reading) (indexed_of (setup_of task) reading)
      task.settings.sheet after.pages.items keys)
      ⊎ BrokenLooks (MayBreakOff end.ending end.tally) (finding (setup_of task) reading)
      (indexed_of (setup_of task) reading) task.settings.sheet after.pages.items keys
  pub through : EveryPageCameToItsEndBy task.settings.workers end.status
      → WholeLooks (finding (setup_of task) reading) (indexed_of (setup_of task) reading)
      task.settings.sheet after.pages.items keys
  pub answered : SeatCalls keys (own (place + 1) history)
  -- each font that was handed in has its key's weight
  pub weighed : AllWeigh (IsWeightOf (setup_of task).library
      (document_units (setup_of task).res reading)) (own (place + 1) history)
  -- it loaded what its look-ups looked for
  pub loads : LoadsAreOf (EveryPageCameToItsEndBy task.settings.workers end.status) (setup_of task)
      reading (own (place + 1) history) after.loads
  -- the calls of one worker are one list, given these keys and whatever weights of keys its fills
  -- have, unless the source failed (5) or memory ran out (9)
  pub one : task.settings.workers ≡ 1 → WasNotCutOffBy end.status
      → (weight : FontKey → ℕ) → WeighSo weight (own (place + 1) history)
      → history ≡ solo_history (cache_limits task.settings) 1 weight keys

-- what is known of an output's bytes before a run and after it, and the pages that were written
-- whole
pub record KnownOutput : Type 0 where
  pub before : Option (List ℕ)
  pub after : Option (List ℕ)
  pub whole : List DrawnValue

abbrev pub known_output : StreamChange → (whole : List DrawnValue) → KnownOutput
known_output output whole =
    record { before = output.before.bytes; after = output.after.bytes; whole = whole }

-- What was drawn of these bytes, which are a document, in a run that ended so: its pages have the
-- values that say what was written, each font being what the library has for its key; the used
-- workers drew its first pages, each page once, among them all that were written and the one named,
-- and none after its round, or where its write failed after the next one; the calls of each answer
-- what its pages looked up; and the tally is that of the pages written whole, with their black
-- pixels where the settings ask for the summary.
abbrev pub DrewPages : {F : Type 0} → Task → KnownOutput → (before after : List (Worker F))
    → (history : List Call) → RunEnd → (bytes : List ℕ) → Type 0
DrewPages task output before after history end bytes =
    HoldsOfDocument (setup_of task) bytes (λ reading values.
    EndsPages output.before output.after (Unit {0}) (Unit {0}) end.ending reading values
    × TallyMatchesRun task.settings.summary (λ pages. output.whole ≡ pages) output.before
    output.after history end.tally end.ending values
    × WorkersDrew (pages_begun reading) task.settings.workers end.ending end.tally after
    × EachUsed task.settings.workers before after
    (λ k _ now. Answered task reading history end k now))

-- And where no cache was made nothing was.
abbrev pub PagesMatchHistory : {F : Type 0} → Task → Drawing F → (status : ℕ) → EndingValue
    → Option Tally → (whole : List DrawnValue) → (bytes : List ℕ) → Type 0
PagesMatchHistory task drawing status e tally whole bytes =
    (IsIdle e × (tally ≡ None) × (drawing.history ≡ []) × (drawing.after ≡ drawing.before))
    ⊎ DrewPages task (known_output drawing.output whole) drawing.before drawing.after
    drawing.history (run_end status e tally) bytes

-- ---- the parts of a run

-- the input failed or memory ran out before all of it was read, and then nothing was done
pub record IsUnread {F : Type 0} (drawing : Drawing F) (status : ℕ) (tally : Option Tally)
    : Type 0 where
  pub answers : IsAmong status (6 ∷ 9 ∷ [])
  pub output : drawing.output.Kept
  pub workers : drawing.after ≡ drawing.before
  pub history : drawing.history ≡ []
  pub no_tally : tally ≡ None

-- the pages of a document were drawn by the workers that the settings name, what they lack was
-- noted, and it ended so
pub record DrewDocument {F : Type 0} (task : Task) (reading : Reading) (drawing : Drawing F)
    (notes : StreamChange) (e : EndingValue) (tally : Option Tally) : Type 0 where
  pub ends : (values : List PageValue) × AreValues (setup_of task) reading values
      × EndsPages drawing.output.before.bytes drawing.output.after.bytes
      (FaultsRose drawing.output) (Unit {0}) e reading values
      × TallyMatchesRun task.settings.summary (NotedLacks notes (is_noted tally))
      drawing.output.before.bytes drawing.output.after.bytes drawing.history tally e values
  pub failed : (page : ℕ) → e ≡ Source page
      → SomeUsed task.settings.workers drawing.before drawing.after
      (FailedAt drawing.sources.faults page)
  pub shares : WorkersDrew (pages_begun reading) task.settings.workers e tally drawing.after
  pub one : IsOneHistory task.settings (status_of e) drawing.history
  pub ran : EachUsed task.settings.workers drawing.before drawing.after
      (λ k was now. WorkerRan (MayBreakOff e tally) (EveryPageCameToItsEnd task.settings.workers e)
      drawing.sources.library drawing.sources.faults drawing.sources.loads (setup_of task) reading
      drawing.history (k + 1) was now)

-- what holds of the workers after any run that ended so
pub record WorkersAreDone {F : Type 0} (task : Task) (drawing : Drawing F) (e : EndingValue)
    (tally : Option Tally) : Type 0 where
  pub counts : CountsTo drawing.history tally e
  pub failed : (page : ℕ) → e ≡ Source page
      → SomeUsed task.settings.workers drawing.before drawing.after
      (FailedAt drawing.sources.faults page)
  pub one : IsOneHistory task.settings (status_of e) drawing.history
  pub worked : EachUsed task.settings.workers drawing.before drawing.after
      (λ k was now. WorkerDone task drawing.sources (status_of e) (own (k + 1) drawing.history) was
      now)
  pub gave_up : EachUsed task.settings.workers drawing.before drawing.after
      (λ k _ now. GaveUpOnlyBroken e tally (own (k + 1) drawing.history) now)
  pub shares : (total : ℕ) × PartitionPages total task.settings.workers drawing.after
  pub rest : RestIsKept task.settings.workers drawing.before drawing.after
