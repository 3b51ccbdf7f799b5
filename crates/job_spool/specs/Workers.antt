-- The workers of a run: while they draw over a cache, and between two caches.
use Rattle.std.specs.Prelude.{◌≡◌, ◌⊎◌, ℕ, ◌+◌, ◌-◌, ◌*◌, ◌^◌, ◌≤◌, ◌==◌, cond, List, [], Option, Some, None, IfSome, slice_index_or}
use Rattle.outside.specs.Library.{FileTable}
use Rattle.cache_core.specs.declared.calls.Call.{Call}
use Rattle.font_decode.specs.Desks.{Loaded, misses}
use Rattle.font_decode.specs.Loads.{MAX_LOADS}
use Rattle.vf_expand.specs.Limits.{MAX_FLAT_COMMANDS}
use Rattle.page_workers.specs.Seats.{BenchFits, library_at, room_at}
use Rattle.page_workers.specs.declared.bench.Bench.{Bench}
use Rattle.page_workers.specs.declared.worker.Worker.{Worker}
use Rattle.dvi_run.specs.Jobs.{calls_at, number_at}
use Rattle.dvi_run.specs.Outside.{Sources}
use Rattle.dvi_run.specs.Together.{SomeUsed, SourceRose}
use Rattle.job_spool.specs.Sums.{sum_below}
use Rattle.job_spool.specs.declared.job.Job.{Job}

-- ---- a worker

-- A worker with a seat of this number at a bench, where there is room for so many pages more. Its
-- calls there are these, and for them it loaded at most eight files for each look that was no hit.
pub record IsSeated {F : Type 0} (sources : Sources F) (known : Option FileTable) (bench : Bench)
    (number left : ℕ) (calls : List Call) (before now : Worker F) : Type 0 where
  pub fits : BenchFits (sources.library now.source) bench now.seat
  pub none : now.results.items ≡ []
  pub counter : now.counter ≡ None
  pub library : library_at now.seat ≡ known
  pub numbered : number_at now.seat ≡ Some number
  pub room : left * MAX_FLAT_COMMANDS ≤ room_at now.loads now.seat
  pub called : calls_at now.seat ≡ calls
  pub faults : sources.faults before.source ≤ sources.faults now.source
  pub loaded : Loaded (MAX_LOADS * misses calls) (sources.loads before.source)
      (sources.loads now.source) before.loads now.loads

-- A worker between two caches, and what it loaded for looks of which so many were no hit.
pub record IsResting {F : Type 0} (sources : Sources F) (known : Option FileTable) (missed : ℕ)
    (before now : Worker F) : Type 0 where
  pub seat : now.seat ≡ None
  pub none : now.results.items ≡ []
  pub counter : now.counter ≡ None
  pub library : IfSome known (λ files. sources.library now.source ≡ Some files)
  pub faults : sources.faults before.source ≤ sources.faults now.source
  pub loaded : Loaded (MAX_LOADS * missed) (sources.loads before.source)
      (sources.loads now.source) before.loads now.loads

-- ---- how often their sources failed

-- all of the first n workers together
abbrev pub failures : {F : Type 0} → (faults : F → ℕ) → (n : ℕ) → List (Worker F) → Worker F → ℕ
failures faults n workers d = sum_below (λ s. faults (slice_index_or workers s d).source) n

-- one of them, whose count has come to the last number of a `u64`
abbrev pub CountIsFull : {F : Type 0} → (faults : F → ℕ) → (n : ℕ)
    → (before after : List (Worker F)) → Type 0
CountIsFull faults n before after = SomeUsed n before after
    (λ was now. SourceRose faults was now × (2 ^ 64 - 1 ≤ faults now.source))

-- 1 for a job that ended with 5
abbrev pub source_end : (status : ℕ) → ℕ
source_end status = cond (status == 5) 1 0

abbrev pub source_ends : {I O : Type 0} → (n : ℕ) → List (Job I O) → Job I O → ℕ
source_ends n jobs d = sum_below (λ k. source_end (slice_index_or jobs k d).status) n

-- of m jobs no more came to end with 5 than the sources of n workers failed
abbrev pub FewSourceEnds : {F I O : Type 0} → (faults : F → ℕ) → (n m : ℕ)
    → (before after : List (Worker F)) → (jobs now : List (Job I O)) → Type 0
FewSourceEnds {F} {I} {O} faults n m before after jobs now =
    (d : Worker F) (e : Job I O) → CountIsFull faults n before after
    ⊎ (source_ends m now e + failures faults n before d
    ≤ source_ends m jobs e + failures faults n after d)
