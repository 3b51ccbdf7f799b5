-- Runs by one worker: what they have in common.
use Rattle.std.specs.Prelude.{◌≡◌, ◌≤◌, ℕ, List, length, Option, Some, None}
use Rattle.outside.specs.Library.{FileTable}
use Rattle.outside.specs.declared.keys.FontKey.{FontKey}
use Rattle.pixel_round.specs.declared.units.Units.{Units}
use Rattle.cache_core.specs.declared.calls.Call.{Call}
use Rattle.cache_core.specs.Solo.{solo_history}
use Rattle.font_decode.specs.Weights.{IsWeightOf}
use Rattle.page_index.specs.Document.{Reading}
use Rattle.page_index.specs.Pages.{document_units}
use Rattle.page_workers.specs.declared.worker.Worker.{Worker}
use Rattle.dvi_run.specs.CacheLimits.{cache_limits}
use Rattle.dvi_run.specs.Pages.{FailingPage}
use Rattle.dvi_run.specs.Endings.{EndingValue, Written, Page, Notes, status_of}
use Rattle.dvi_run.specs.Looked.{WasNotCutOffBy}
use Rattle.dvi_run.specs.Report.{loads_of, notes_text}
use Rattle.dvi_run.specs.Outside.{Task, setup_of}
use Rattle.dvi_run.specs.Together.{Answered, DrewPages, KnownOutput, RunEnd, run_end}
use Rattle.dvi_run.specs.declared.tally.Tally.{Tally}

-- all pages were written, or a page has no bitmap: nothing but the pages decided how it ended
abbrev pub IsByItsPages : EndingValue → Type 0
IsByItsPages Written = Unit {0}
IsByItsPages (Page page) = Unit {0}
IsByItsPages Notes = Unit {0}
IsByItsPages _ = ⊥

-- the page that an end names with its fault
abbrev pub page_named : EndingValue → Option FailingPage
page_named (Page page) = Some page
page_named _ = None

-- Two runs by one worker over the same bytes, for the same settings and known font files, that
-- nothing but their pages ended: they end at the same page, if at one, their calls of the cache are
-- one history, they load as many files, and what they print to their notes is one text. Each is
-- given by what it says of its pages, whatever its streams and its source are.
abbrev pub RunsOfOneWorkerAreAlike : (F G : Type 0) → Type 0
RunsOfOneWorkerAreAlike F G =
    (task : Task) (files : FileTable) (bytes : List ℕ) (output other : KnownOutput)
    (before after : List (Worker F)) (was now : List (Worker G)) (history calls : List Call)
    (e f : EndingValue) (tally t : Option Tally)
    → task.settings.workers ≡ 1 → (setup_of task).library ≡ Some files
    → 1 ≤ length after → 1 ≤ length now → IsByItsPages e → IsByItsPages f
    → DrewPages task output before after history (run_end (status_of e) e tally) bytes
    → DrewPages task other was now calls (run_end (status_of f) f t) bytes
    → (page_named e ≡ page_named f) × (history ≡ calls) × (loads_of 1 after ≡ loads_of 1 now)
    × (notes_text output.whole task.settings tally (loads_of 1 after) history e
    ≡ notes_text other.whole task.settings t (loads_of 1 now) calls f)

-- The calls of the cache in a run by one worker over known font files that was cut off neither by
-- its source nor for want of memory: they are one list, given what each key's font weighs in the
-- library, the units of the document and the keys that its pages look up.
abbrev pub OneWorkerHasOneHistory : (F : Type 0) → Type 0
OneWorkerHasOneHistory F =
    (task : Task) (files : FileTable) (reading : Reading) (history : List Call) (end : RunEnd)
    (after : Worker F) (units : Units) (weight : FontKey → ℕ)
    → task.settings.workers ≡ 1 → WasNotCutOffBy end.status
    → (setup_of task).library ≡ Some files
    → document_units (setup_of task).res reading ≡ Some units
    → ((k : FontKey) → IsWeightOf (Some files) (Some units) k (weight k))
    → (drew : Answered task reading history end 0 after)
    → history ≡ solo_history (cache_limits task.settings) 1 weight drew.keys
