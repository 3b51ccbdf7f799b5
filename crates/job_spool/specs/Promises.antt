-- What holds of a run over several documents.
use Rattle.std.specs.Prelude.{◌≡◌, ◌≢◌, ◌⊎◌, ◌+◌, ◌<◌, ◌≤◌, ℕ, List, [], ◌∷◌, Option, None, Some, MatchOption, length, slice_index}
use Rattle.outside.specs.Library.{FileTable}
use Rattle.cache_core.specs.Histories.{own}
use Rattle.font_decode.specs.Desks.{misses}
use Rattle.page_index.specs.Document.{IsDocument}
use Rattle.page_index.specs.Pages.{Indexed}
use Rattle.page_workers.specs.declared.worker.Worker.{Worker}
use Rattle.command_line.specs.declared.settings.Settings.{Settings}
use Rattle.dvi_run.specs.CacheLimits.{cache_limits}
use Rattle.dvi_run.specs.Pages.{setup_with}
use Rattle.dvi_run.specs.Endings.{IsAmong}
use Rattle.dvi_run.specs.Outside.{Run, Sources, StreamChange}
use Rattle.dvi_run.specs.Promises.{IsCutShort, IsWritten, StatusIsTrue}
use Rattle.dvi_run.specs.Reading.{ReadsGave, WasRead}
use Rattle.dvi_run.specs.Together.{EachUsed}
use Rattle.job_spool.specs.Caches.{Drawing, IsMachineRun, KeepsCache}
use Rattle.job_spool.specs.Jobs.{JobChange}
use Rattle.job_spool.specs.Sharing.{Documents, caches_of, document_at}
use Rattle.job_spool.specs.Sums.{sum_below}
use Rattle.job_spool.specs.Workers.{CountIsFull, IsResting, failures, source_end}
use Rattle.job_spool.specs.declared.numbers.SpoolNumbers.{SpoolNumbers}

-- ---- each job as alone

-- notes that say nothing: a job has none of its own
abbrev pub no_notes : StreamChange
no_notes = record {
  before = record { bytes = None; faults = 0 };
  after = record { bytes = None; faults = 0 };
  Kept = Unit {0};
}

-- the run of one job: its own input and output, and the workers of all
abbrev pub run_of : {F : Type 0} → Settings → (known : Option FileTable) → Drawing F → JobChange
    → Run F
run_of settings known drawing job =
    record {
      task = record { settings = settings; known = known };
      streams = record { input = job.input; output = job.output; notes = no_notes };
      sources = drawing.sources;
      before = drawing.before;
      after = drawing.after;
      history = job.history;
    }

-- the input of a job failed or memory ran out, and nothing was written
pub record IsUnread {F : Type 0} (run : Run F) (status : ℕ) : Type 0 where
  pub answers : IsAmong status (6 ∷ 9 ∷ [])
  pub output : run.streams.output.Kept
  pub history : run.history ≡ []

-- What holds of a job is what holds of a run of its document alone: what was read of its input; why
-- it ended so, both ways; what was written where it ended well; and where it was refused.
pub record KeepsJob {F : Type 0} (run : Run F) (status : ℕ) : Type 0 where
  pub answers : IsAmong status (0 ∷ 2 ∷ 3 ∷ 4 ∷ 5 ∷ 6 ∷ 7 ∷ 9 ∷ [])
  -- reads gave all that the input had left, where that is known, and one of them saw the end, or
  -- they gave one byte more than a document may have; else the status is 6 or 9, and nothing was
  -- written or drawn
  pub read : WasRead run.streams.input (IsUnread run status)
  pub caused : StatusIsTrue run status
  pub written : IsWritten run status
  pub cut_short : IsCutShort run status

-- ---- all jobs

-- a document that was found in a job's input: the bytes that reads of it gave are that document at
-- this resolution
abbrev pub IsDocumentOf : (res : ℕ) → JobChange → Indexed → Type 0
IsDocumentOf res job x = (x.res ≡ res)
    × ((bytes : List ℕ) × ReadsGave job.input bytes × IsDocument res bytes x.reading)

-- A job without a document: it can't be read, its bytes are none, or memory ran out. It wrote
-- nothing.
pub record HasNoDocument (job : JobChange) : Type 0 where
  pub answers : IsAmong job.status (2 ∷ 6 ∷ 9 ∷ [])
  pub output : job.output.Kept
  pub history : job.history ≡ []

-- the looks that were no hit, of a seat in all histories
abbrev pub missed_by : {F : Type 0} → Drawing F → (seat : ℕ) → ℕ
missed_by drawing seat =
    sum_below (λ k. misses (own (seat + 1) (drawing.jobs k).history)) drawing.count

pub record KeepsSpool {F : Type 0} (settings : Settings) (known : Option FileTable)
    (drawing : Drawing F) : Type 0 where
  pub jobs : (k : ℕ) → k < drawing.count
      → KeepsJob (run_of settings known drawing (drawing.jobs k)) (drawing.jobs k).status
  -- the documents, by whose units and pages the jobs share caches
  pub documents : Documents
  pub many : length documents ≡ drawing.count
  pub read : (k : ℕ) → k < drawing.count → MatchOption (document_at documents k)
      (HasNoDocument (drawing.jobs k)) (IsDocumentOf settings.res (drawing.jobs k))
  -- each cache: its history, which its first job keeps, and the pages that were dealt to its seats
  pub caches : (first : ℕ) → first < drawing.count → KeepsCache drawing documents first
  -- any other job has no history
  pub others : (k : ℕ) → k < drawing.count → slice_index (caches_of documents) k ≢ k
      → (drawing.jobs k).history ≡ []
  pub machine : (first : ℕ) → first < drawing.count → IsMachineRun drawing documents first
  -- the jobs that ended with 5 are no more than the failures of the sources, unless one of these
  -- counts has come to its last value
  pub failed : (d : Worker F) → CountIsFull drawing.sources.faults drawing.workers drawing.before
      drawing.after ⊎ (sum_below (λ k. source_end (drawing.jobs k).status) drawing.count
      + failures drawing.sources.faults drawing.workers drawing.before d
      ≤ failures drawing.sources.faults drawing.workers drawing.after d)
  -- the workers have neither a seat nor a result, and loaded at most eight files for each of their
  -- looks that was no hit
  pub workers : EachUsed drawing.workers drawing.before drawing.after
      (λ seat was now. IsResting drawing.sources known (missed_by drawing seat) was now)

-- what a run over several documents is, by its numbers
abbrev pub spool_drawing : {F : Type 0} → Settings → (known : Option FileTable) → Sources F
    → (count : ℕ) → (ℕ → JobChange) → (before after : List (Worker F)) → Drawing F
spool_drawing settings known sources count jobs before after =
    record {
      given = setup_with known settings;
      limits = cache_limits settings;
      workers = settings.workers;
      sources = sources;
      count = count;
      jobs = jobs;
      before = before;
      after = after;
    }

-- what holds under the numbers that the words give, where they give any
abbrev pub ForNumbers : (given : Option SpoolNumbers) → (SpoolNumbers → Type 0) → Type 0
ForNumbers given P = (numbers : SpoolNumbers) → given ≡ Some numbers → P numbers
