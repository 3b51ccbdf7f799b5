-- Jobs that are drawn over one cache, while they are.
use Rattle.std.specs.Prelude.{◌≡◌, ◌+◌, ◌-◌, ◌<◌, ◌≤◌, ℕ, List, [], ◌∷◌, Option, None, IfSome, IsSome, length, map, slice_index_or}
use Rattle.std.specs.List.{All, flat_map}
use Rattle.outside.specs.Library.{FileTable}
use Rattle.cache_core.specs.declared.limits.Limits.{Limits}
use Rattle.page_index.specs.Document.{pages_begun}
use Rattle.page_index.specs.Limits.{MAX_PAGES}
use Rattle.page_index.specs.Pages.{Indexed}
use Rattle.page_draw.specs.declared.sheet.Sheet.{Sheet}
use Rattle.page_workers.specs.declared.bench.Bench.{Bench}
use Rattle.page_workers.specs.declared.worker.Worker.{Worker}
use Rattle.dvi_run.specs.Endings.{EndingValue, IsAmong, status_of}
use Rattle.dvi_run.specs.Jobs.{DrewJob}
use Rattle.dvi_run.specs.Outside.{Sources, change_of}
use Rattle.dvi_run.specs.Pages.{Setup}
use Rattle.dvi_run.specs.Rounds.{site}
use Rattle.job_spool.specs.Caches.{Drawing, HasFailed}
use Rattle.job_spool.specs.Jobs.{JobView, jobs_change}
use Rattle.job_spool.specs.Limits.{MAX_SHARED_PAGES}
use Rattle.job_spool.specs.Parts.{IsPart, Part}
use Rattle.job_spool.specs.Sharing.{Documents, caches_of, document_at, pages_sharing, sharer, sharers}
use Rattle.job_spool.specs.Workers.{IsSeated}
use Rattle.job_spool.specs.declared.job.Job.{Job}

-- what all these workers draw of these jobs
abbrev pub drawing_with : {F I O : Type 0} → Setup → Limits → Sources F → JobView I O
    → (jobs now : List (Job I O)) → Job I O → (before after : List (Worker F)) → Drawing F
drawing_with g limits sources view jobs now d before after =
    record {
      given = g;
      limits = limits;
      workers = length before;
      sources = sources;
      count = length jobs;
      jobs = jobs_change view jobs now d;
      before = before;
      after = after;
    }

-- all documents are for this resolution, and none has too many pages
abbrev pub AreFor : (res : ℕ) → Documents → Type 0
AreFor res documents = (k : ℕ) → IfSome (document_at documents k)
    (λ x. (x.res ≡ res) × (pages_begun x.reading ≤ MAX_PAGES))

-- the jobs that share a cache weren't drawn
abbrev pub AreUndrawn : {I O : Type 0} → Documents → (first : ℕ) → List (Job I O) → Type 0
AreUndrawn {I} {O} documents first jobs = (k : ℕ) (d : Job I O) → k < length jobs
    → IsSome (sharer documents first k) → (slice_index_or jobs k d).status ≡ 9

-- the others are as they were, and no input was read
pub record LeftAlone {I O : Type 0} (documents : Documents) (first : ℕ)
    (before after : List (Job I O)) : Type 0 where
  pub others : (k : ℕ) (d : Job I O) → sharer documents first k ≡ None
      → slice_index_or after k d ≡ slice_index_or before k d
  pub input : (k : ℕ) (d : Job I O)
      → (slice_index_or after k d).input ≡ (slice_index_or before k d).input

-- A job that was drawn, by workers that were so before and after.
pub record DrewOne {F I O : Type 0} (sources : Sources F) (known : Option FileTable) (bench : Bench)
    (sheet : Sheet) (view : JobView I O) (x : Indexed) (before after : List (Worker F))
    (job now : Job I O) : Type 0 where
  pub ending : EndingValue
  pub status : now.status ≡ status_of ending
  pub answers : IsAmong now.status (0 ∷ 3 ∷ 4 ∷ 5 ∷ 7 ∷ 9 ∷ [])
  pub drew : DrewJob (site sources.library sources.faults sources.loads bench known x sheet)
      (change_of view.written view.writes job.out now.out) before after ending
  pub input : now.input ≡ job.input
  pub history : now.history ≡ job.history

-- how many pages the jobs from the k-th on may have that share a cache
abbrev pub left_for : Documents → (first k : ℕ) → ℕ
left_for documents first k =
    MAX_SHARED_PAGES - pages_sharing documents (caches_of documents) first k

-- of the first k jobs those were drawn that share a cache, by workers with seats at its bench
pub record SharersDrew {F : Type 0} (drawing : Drawing F) (known : Option FileTable)
    (bench : Bench) (documents : Documents) (first k : ℕ) : Type 0 where
  pub parts : List Part
  pub shared : map (λ p. p.job) parts ≡ sharers documents first k
  pub each : All (λ p. (p.job < k) × IsPart drawing.given drawing.workers (HasFailed drawing)
      documents first (drawing.jobs p.job) p) parts
  pub seats : (seat : ℕ) (d : Worker F) → seat < drawing.workers
      → IsSeated drawing.sources known bench (seat + 1) (left_for documents first k)
      (flat_map (λ p. p.calls seat) parts) (slice_index_or drawing.before seat d)
      (slice_index_or drawing.after seat d)
