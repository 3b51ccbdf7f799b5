-- A job's part of the history of its cache: the pages of its document, dealt to the seats, and the
-- calls that these made.
use Rattle.std.specs.Prelude.{◌≡◌, ◌⊎◌, ◌<◌, ◌≤◌, ℕ, List, [], ◌∷◌, Some}
use Rattle.cache_core.specs.declared.calls.Call.{Call}
use Rattle.cache_core.specs.Histories.{AllWeigh, NoneReleased, SeatCalls, looks}
use Rattle.font_decode.specs.Desks.{ReleasedLast}
use Rattle.font_decode.specs.Weights.{IsWeightOf}
use Rattle.page_index.specs.Document.{Reading, pages_begun}
use Rattle.page_index.specs.Pages.{document_units}
use Rattle.page_draw.specs.Values.{PageValue}
use Rattle.dvi_run.specs.Pages.{AreValues, Setup, finding}
use Rattle.dvi_run.specs.Endings.{EndingValue, EndsPages, IsAmong, status_of}
use Rattle.dvi_run.specs.Looked.{BrokenLooks, MayBreakOff, MayWantMemory, WholeLooks}
use Rattle.dvi_run.specs.Outside.{FaultsRose}
use Rattle.dvi_run.specs.Rounds.{indexed_of}
use Rattle.dvi_run.specs.Shares.{ArePartitioned}
use Rattle.dvi_run.specs.Tally.{AreWritten, IsAfter}
use Rattle.dvi_run.specs.declared.tally.Tally.{Tally}
use Rattle.job_spool.specs.Jobs.{JobChange}
use Rattle.job_spool.specs.Sharing.{Documents, sharer}

pub record Part : Type 0 where
  -- which job, counted from 0, and its document
  pub job : ℕ
  pub reading : Reading
  -- how it ended, and what it wrote whole
  pub ending : EndingValue
  pub tally : Tally
  -- how many pages were drawn
  pub drawn : ℕ
  -- by seats, counted from 0: the pages that it drew, and its calls for them
  pub pages : (seat : ℕ) → List ℕ
  pub calls : (seat : ℕ) → List Call

-- What a seat did in a job: its calls answer all look-ups of its pages, one page after another, and
-- no claim is given up; or its last page was broken off, which may have been, and its look-ups are
-- the first ones.
pub record SeatPart (g : Setup) (reading : Reading) (MayBreak : ℕ → Type 0) (pages : List ℕ)
    (calls : List Call) : Type 0 where
  pub looked : (NoneReleased calls × WholeLooks (finding g reading) (indexed_of g reading)
      g.sheet pages (looks calls))
      ⊎ BrokenLooks MayBreak (finding g reading) (indexed_of g reading) g.sheet pages (looks calls)
  pub answered : SeatCalls (looks calls) calls
  -- each font that was handed in has its key's weight
  pub weighed : AllWeigh (IsWeightOf g.library (document_units g.res reading)) calls
  -- a claim is given up at their end alone
  pub last : ReleasedLast calls

-- The part of a job that shares the cache of the job `first`. Failed says of each seat that the
-- source of its worker failed in the run.
pub record IsPart (g : Setup) (workers : ℕ) (Failed : ℕ → Type 0) (documents : Documents)
    (first : ℕ) (job : JobChange) (p : Part) : Type 0 where
  pub document : sharer documents first p.job ≡ Some (indexed_of g p.reading)
  pub status : job.status ≡ status_of p.ending
  pub answers : IsAmong job.status (0 ∷ 3 ∷ 4 ∷ 5 ∷ 7 ∷ 9 ∷ [])
  -- the pages have the values that say what was written
  pub ends : (values : List PageValue) × AreValues g p.reading values
      × EndsPages job.output.before.bytes job.output.after.bytes (FaultsRose job.output) (Unit {0})
      p.ending p.reading values × IsAfter p.tally.pages p.ending
      × AreWritten job.output.before.bytes job.output.after.bytes p.tally.pages p.ending values
  -- the drawn pages are the first ones, each dealt to one seat and there in rising order; all that
  -- were written are among them
  pub few : p.drawn ≤ pages_begun p.reading
  pub dealt : ArePartitioned p.drawn workers p.pages
  pub written : p.tally.pages ≤ p.drawn
  -- a page was broken off only where the source of its seat's worker failed, or for want of memory:
  -- never where all pages were written, and with one worker only where the status is 9
  pub seats : (seat : ℕ) → seat < workers → SeatPart g p.reading (λ page.
      MayBreakOff p.ending (Some p.tally) page × (Failed seat ⊎ MayWantMemory workers p.ending))
      (p.pages seat) (p.calls seat)
