-- Spools over inputs whose bytes are known: what is promised of the bytes that reads gave holds of
-- those that the inputs had left.
use Rattle.std.specs.Prelude.{◌≡◌, ◌<◌, ℕ, List, [], ◌∷◌, Option, Some}
use Rattle.outside.specs.Library.{FileTable}
use Rattle.page_index.specs.Document.{IsDocument}
use Rattle.page_index.specs.Pages.{Indexed}
use Rattle.page_workers.specs.declared.worker.Worker.{Worker}
use Rattle.command_line.specs.declared.settings.Settings.{Settings}
use Rattle.dvi_run.specs.Endings.{IsAmong}
use Rattle.dvi_run.specs.KnownInputs.{of_known_input}
use Rattle.dvi_run.specs.Outside.{Sources}
use Rattle.dvi_run.specs.Reading.{HoldsOfInput, IsAllRead}
use Rattle.job_spool.specs.Caches.{Drawing}
use Rattle.job_spool.specs.Jobs.{JobView, jobs_change}
use Rattle.job_spool.specs.Promises.{KeepsJob, KeepsSpool, run_of, spool_drawing}
use Rattle.job_spool.specs.Sharing.{Documents, document_at}
use Rattle.job_spool.specs.declared.job.Job.{Job}

-- what holds of a job by the bytes that its input had left, where they are known
pub record HoldsOfKnownInput {F : Type 0} (settings : Settings) (known : Option FileTable)
    (drawing : Drawing F) (documents : Documents) (k : ℕ) : Type 0 where
  -- what holds of it for the bytes that reads gave holds, word for word, for these
  pub alone : KeepsJob (of_known_input (run_of settings known drawing (drawing.jobs k)))
      (drawing.jobs k).status
  -- at 0, 2 to 5 and 7 they were read to their end, or to the limit of a document and one byte more
  pub read : IsAmong (drawing.jobs k).status (0 ∷ 2 ∷ 3 ∷ 4 ∷ 5 ∷ 7 ∷ [])
      → IsAllRead (drawing.jobs k).input.before.left (drawing.jobs k).input.after.left
  -- the document by which it shares a cache is theirs
  pub document : (x : Indexed) → document_at documents k ≡ Some x
      → HoldsOfInput (drawing.jobs k).input.before.left
      (λ bytes. IsDocument settings.res bytes x.reading)

-- So it is for each job of a spool that keeps its promises, over such sources and streams.
abbrev pub SpoolsHoldOfKnownInputs : {I F O : Type 0} → Sources F → JobView I O → Type 0
SpoolsHoldOfKnownInputs {I} {F} {O} sources view =
    (settings : Settings) (known : Option FileTable) (count : ℕ) (jobs now : List (Job I O))
    (d : Job I O) (before after : List (Worker F))
    → (kept : KeepsSpool settings known
    (spool_drawing settings known sources count (jobs_change view jobs now d) before after))
    → (k : ℕ) → k < count → HoldsOfKnownInput settings known
    (spool_drawing settings known sources count (jobs_change view jobs now d) before after)
    kept.documents k
