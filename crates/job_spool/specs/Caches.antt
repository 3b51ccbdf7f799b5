-- The histories of the caches of a run.
use Rattle.std.specs.Prelude.{◌≡◌, ◌≢◌, ◌⊎◌, ◌+◌, ◌<◌, ℕ, List, [], IsSome, map, slice_index_or}
use Rattle.std.specs.List.{All, flat_map}
use Rattle.outside.specs.declared.keys.FontKey.{FontKey}
use Rattle.cache_core.specs.declared.calls.Call.{Call}
use Rattle.cache_core.specs.declared.limits.Limits.{Limits}
use Rattle.cache_core.specs.Histories.{WeighSo, looks, own}
use Rattle.cache_core.specs.Laws.{FewClaims}
use Rattle.cache_core.specs.Machine.{Legal}
use Rattle.cache_core.specs.Solo.{solo_history}
use Rattle.turn_lock.specs.Histories.{AllMade}
use Rattle.page_workers.specs.declared.worker.Worker.{Worker}
use Rattle.dvi_run.specs.Pages.{Setup}
use Rattle.dvi_run.specs.Endings.{status_of}
use Rattle.dvi_run.specs.Outside.{Sources}
use Rattle.dvi_run.specs.Together.{SourceRose}
use Rattle.job_spool.specs.Jobs.{JobChange}
use Rattle.job_spool.specs.Parts.{IsPart, Part}
use Rattle.job_spool.specs.Sharing.{Documents, sharer, sharers}

-- what is drawn with, the jobs before and after, and the used workers before and after
pub record Drawing (F : Type 0) : Type 1 where
  pub given : Setup
  pub limits : Limits
  pub workers : ℕ
  pub sources : Sources F
  pub count : ℕ
  pub jobs : ℕ → JobChange
  pub before : List (Worker F)
  pub after : List (Worker F)

-- the source of a seat's worker failed
abbrev pub HasFailed : {F : Type 0} → Drawing F → (seat : ℕ) → Type 0
HasFailed {F} drawing seat =
    (d : Worker F) → SourceRose drawing.sources.faults (slice_index_or drawing.before seat d)
    (slice_index_or drawing.after seat d)

-- One cache's history: it is legal, and of each seat it has the calls of all jobs that share the
-- cache, each once, job by job.
pub record IsHistoryOf (limits : Limits) (workers : ℕ) (parts : List Part) (history : List Call)
    : Type 0 where
  pub legal : Legal limits history
  -- each call is of a used worker's seat, and these are numbered from 1
  pub made : AllMade (workers + 1) history
  pub none_of_first : own 0 history ≡ []
  -- a key is claimed at most once more than it left or was given up
  pub few_claims : FewClaims history
  pub calls : (seat : ℕ) → seat < workers
      → own (seat + 1) history ≡ flat_map (λ p. p.calls seat) parts

-- The cache of the jobs that share that of the job `first`, which keeps its history.
pub record HasCache {F : Type 0} (drawing : Drawing F) (documents : Documents) (first : ℕ)
    : Type 0 where
  -- the parts of these jobs, in their order
  pub parts : List Part
  pub shared : map (λ p. p.job) parts ≡ sharers documents first drawing.count
  pub each : All (λ p. (p.job < drawing.count) × IsPart drawing.given drawing.workers
      (HasFailed drawing) documents first (drawing.jobs p.job) p) parts
  pub one : IsHistoryOf drawing.limits drawing.workers parts (drawing.jobs first).history

-- No job shares it, or there was no memory for a cache: nothing was drawn or written.
pub record HasNoCache {F : Type 0} (drawing : Drawing F) (documents : Documents) (first : ℕ)
    : Type 0 where
  pub history : (drawing.jobs first).history ≡ []
  pub ended : (k : ℕ) → k < drawing.count → IsSome (sharer documents first k)
      → ((drawing.jobs k).status ≡ 9) × (drawing.jobs k).output.Kept

abbrev pub KeepsCache : {F : Type 0} → Drawing F → Documents → (first : ℕ) → Type 0
KeepsCache drawing documents first =
    HasNoCache drawing documents first ⊎ HasCache drawing documents first

-- ---- one worker

-- The history of a cache over which one worker drew, whose source never failed, and of which no job
-- ended for want of memory: it is the machine's run on the look-ups of the jobs, one after another,
-- whatever weights of keys its fills have.
abbrev pub IsMachineRun : {F : Type 0} → Drawing F → Documents → (first : ℕ) → Type 0
IsMachineRun drawing documents first =
    drawing.workers ≡ 1 → (HasFailed drawing 0 → ⊥) → (cache : HasCache drawing documents first)
    → All (λ p. status_of p.ending ≢ 9) cache.parts
    → (weight : FontKey → ℕ) → WeighSo weight (drawing.jobs first).history
    → (drawing.jobs first).history
    ≡ solo_history drawing.limits 1 weight (flat_map (λ p. looks (p.calls 0)) cache.parts)
