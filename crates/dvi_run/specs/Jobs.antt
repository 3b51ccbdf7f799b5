-- A job: the pages of one document, drawn over a bench over which others may have been drawn
-- before.
use Rattle.std.specs.Prelude.{◌≡◌, ◌⊎◌, ℕ, ◌+◌, ◌*◌, ◌≤◌, List, [], ◌∷◌, ◌++◌, drop, length, Option, Some, None}
use Rattle.outside.specs.Library.{FileTable}
use Rattle.outside.specs.declared.keys.FontKey.{FontKey}
use Rattle.cache_core.specs.declared.calls.Call.{Call}
use Rattle.cache_core.specs.Histories.{AllWeigh, SeatCalls, NoneReleased}
use Rattle.turn_lock.specs.Seats.{SeatView}
use Rattle.font_decode.specs.Desks.{ReleasedLast, Loaded, misses}
use Rattle.font_decode.specs.Loads.{MAX_LOADS}
use Rattle.font_decode.specs.Weights.{IsWeightOf}
use Rattle.vf_expand.specs.Limits.{MAX_FLAT_COMMANDS}
use Rattle.page_index.specs.Document.{pages_begun}
use Rattle.page_index.specs.Pages.{document_units}
use Rattle.page_draw.specs.Values.{PageValue}
use Rattle.page_workers.specs.Seats.{BenchFits, library_at, own_calls, room_at}
use Rattle.page_workers.specs.declared.worker.Worker.{Worker}
use Rattle.dvi_run.specs.Pages.{AreValues, FailingPage, IsUntolerated, finding, run_fault}
use Rattle.dvi_run.specs.Endings.{EndingValue, Source, EndsPages, IsAmong, page_status}
use Rattle.dvi_run.specs.Looked.{BrokenLooks, MayBreakOff, MayWantMemory, WholeLooks}
use Rattle.dvi_run.specs.Outside.{FaultsRose, StreamChange}
use Rattle.dvi_run.specs.Rounds.{FailedAt, Site, WasCut, indexed_of}
use Rattle.dvi_run.specs.Shares.{WorkersDrewSince, pages_since}
use Rattle.dvi_run.specs.Together.{EachUsed, SomeUsed, SourceRose}
use Rattle.dvi_run.specs.Tally.{AreWritten, IsAfter}
use Rattle.dvi_run.specs.declared.tally.Tally.{Tally}

-- ---- what is known of a seat

-- its calls
abbrev pub calls_at : Option SeatView → List Call
calls_at None = []
calls_at (Some s) = own_calls s

abbrev pub number_at : Option SeatView → Option ℕ
number_at None = None
number_at (Some s) = Some s.view.number

-- the calls of a worker's seat since it was so
abbrev pub calls_since : {F : Type 0} → (before now : Worker F) → List Call
calls_since before now = drop (length (calls_at before.seat)) (calls_at now.seat)

-- ---- a worker

-- What a worker did in a job: the pages by which its own grew, and the calls by which those of its
-- seat did.
pub record WorkerDrewJob {F : Type 0} (s : Site F) (MayBreak : ℕ → Type 0) (MayWant : Type 0)
    (before after : Worker F) : Type 0 where
  -- it has no result, and may draw on: its seat, of the same number, still fits the bench, and has
  -- no less room than before but for the look-ups of the document's pages
  pub none : after.results.items ≡ []
  pub counter : after.counter ≡ None
  pub fits : BenchFits (s.library after.source) s.bench after.seat
  pub library : library_at after.seat ≡ library_at before.seat
  pub number : number_at after.seat ≡ number_at before.seat
  pub room : room_at before.loads before.seat
      ≤ room_at after.loads after.seat + pages_begun s.reading * MAX_FLAT_COMMANDS
  -- its source's count of faults didn't fall
  pub faults : s.faults before.source ≤ s.faults after.source
  pub pages : after.pages.items ≡ before.pages.items ++ pages_since before after
  pub calls : calls_at after.seat ≡ calls_at before.seat ++ calls_since before after
  -- these calls answer the look-ups of these pages, one page after another, and no claim is given
  -- up; or the last page was broken off, which may have been, and its look-ups are the first ones:
  -- its source failed in this job, or memory was wanting
  pub keys : List FontKey
  pub looked : (NoneReleased (calls_since before after)
      × WholeLooks (finding s.given s.reading) (indexed_of s.given s.reading) s.given.sheet
      (pages_since before after) keys)
      ⊎ BrokenLooks (λ page. MayBreak page × WasCut s MayWant before after)
      (finding s.given s.reading) (indexed_of s.given s.reading) s.given.sheet
      (pages_since before after) keys
  pub answered : SeatCalls keys (calls_since before after)
  -- each font that was handed in has its key's weight
  pub weighed : AllWeigh (IsWeightOf s.given.library (document_units s.given.res s.reading))
      (calls_since before after)
  -- a claim is given up at their end alone
  pub last : ReleasedLast (calls_since before after)
  -- it loaded at most eight files for each look that was no hit
  pub loaded : Loaded (MAX_LOADS * misses (calls_since before after)) (s.loads before.source)
      (s.loads after.source) before.loads after.loads

-- ---- the pages

-- A job that ended so: the pages have the values that say what was written; the workers drew the
-- first pages, each page once and by one worker, which drew its own in rising order; and among them
-- are all that were written.
pub record DrewJob {F : Type 0} (s : Site F) (output : StreamChange)
    (before after : List (Worker F)) (e : EndingValue) : Type 0 where
  pub tally : Tally
  pub ends : (values : List PageValue) × AreValues s.given s.reading values
      × EndsPages output.before.bytes output.after.bytes (FaultsRose output) (Unit {0}) e s.reading
      values × IsAfter tally.pages e
      × AreWritten output.before.bytes output.after.bytes tally.pages e values
  -- a failed source is that of the worker that drew the page named, as its last one
  pub failed : (page : ℕ) → e ≡ Source page
      → SomeUsed (length before) before after (FailedAt s.faults page)
  pub shares : WorkersDrewSince (pages_begun s.reading) (length before) e (Some tally) before after
  pub worked : EachUsed (length before) before after
      (λ _ was now. WorkerDrewJob s (MayBreakOff e (Some tally)) (MayWantMemory (length before) e)
      was now)

-- ---- the answer

module _ {F : Type 0} (s : Site F) (stream : StreamChange) (before after : List (Worker F)) where
  -- the source of a worker failed
  abbrev pub SomeSourceFailed : Type 0
  SomeSourceFailed = SomeUsed (length before) before after (SourceRose s.faults)

  -- The causes of each answer, both ways.
  pub record JobAnswerIsTrue (status : ℕ) : Type 0 where
    pub answers : IsAmong status (0 ∷ 3 ∷ 4 ∷ 5 ∷ 7 ∷ 9 ∷ [])
    -- 3 and 4: exactly where a page has no bitmap, 4 where the fault is its font's, and neither a
    -- write nor a source failed before. What a tolerant sheet goes past is no such page's fault
    pub page : IsAmong status (3 ∷ 4 ∷ []) → (values : List PageValue) × (page : FailingPage)
        × AreValues s.given s.reading values × (run_fault values ≡ Some page)
        × (status ≡ page_status page.fault) × IsUntolerated s.given page
    pub stopped : (files : FileTable) → s.given.library ≡ Some files → (values : List PageValue)
        (page : FailingPage) → AreValues s.given s.reading values → run_fault values ≡ Some page
        → IsAmong status (page_status page.fault ∷ 5 ∷ 7 ∷ 9 ∷ [])
    -- 5 and 7: only where a source or the output failed
    pub source : status ≡ 5 → SomeSourceFailed
    pub output : status ≡ 7 → FaultsRose stream
    -- 0, but for want of memory: where all pages have a bitmap and nothing failed
    pub complete : (files : FileTable) → s.given.library ≡ Some files → ¬ SomeSourceFailed
        → ¬ FaultsRose stream → (values : List PageValue) → AreValues s.given s.reading values
        → length values ≡ pages_begun s.reading → run_fault values ≡ None
        → IsAmong status (0 ∷ 9 ∷ [])
