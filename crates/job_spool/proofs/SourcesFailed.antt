-- A job that ended with 5, where the jobs that did are no more than the failures of the sources.
use Rattle.std.proofs.Common.{◌≡◌, inl, inr, ℕ, zero, suc, ◌+◌, ◌<◌, ◌≤◌, List, length, get_or, Option, Some, None, refl, ap, subst, ◌∙◌, arith}
use Rattle.std.proofs.lemmas.Bool.{cases_lt}
use Rattle.page_index.specs.Pages.{Indexed}
use Rattle.page_workers.specs.declared.worker.Worker.{Worker}
use Rattle.page_workers.proofs.Lists.{same_default}
use Rattle.dvi_run.specs.Endings.{EndingValue, status_of}
use Rattle.dvi_run.specs.Looked.{IsIdle}
use Rattle.dvi_run.specs.Pages.{Setup}
use Rattle.dvi_run.specs.Together.{SomeUsed, SourceRose}
use Rattle.job_spool.specs.Jobs.{JobView, WasRead}
use Rattle.job_spool.specs.Sums.{sum_below}
use Rattle.job_spool.specs.Workers.{FewSourceEnds, source_end}
use Rattle.job_spool.specs.declared.job.Job.{Job}
use Rattle.job_spool.proofs.SourceEnds.{by_source}
use Rattle.job_spool.proofs.Sums.{some_greater}

pub sum_none : (f : ℕ → ℕ) (n : ℕ) → ((k : ℕ) → k < n → f k ≡ 0) → sum_below f n ≡ 0
sum_none f zero none = refl
sum_none f (suc n) none =
    let rest = sum_none f n (λ k lt. none k (omega arith)) in
    let here = none n (omega arith) in
    omega (arith, rest, here)

sum_has : (f : ℕ → ℕ) (n k : ℕ) → k < n → f k ≤ sum_below f n
sum_has f zero k lt = absurd (omega arith)
sum_has f (suc n) k lt = elim (cases_lt k n) [
  | inl below ↦ let rest = sum_has f n k below in omega (arith, rest)
  | inr last ↦ let same : n ≡ k = omega arith in subst (λ (m : ℕ). f m ≤ sum_below f n + f n) same (omega arith)
]

-- ---- a job that wasn't drawn

no_source : (e : EndingValue) → IsIdle e → source_end (status_of e) ≡ 0
no_source e idle = elim (by_source e) [ inl none ↦ none | inr source ↦ absurd (subst IsIdle source.1 idle) ]

pub not_drawn : {I O : Type 0} (view : JobView I O) (g : Setup) (document : Option Indexed) (a b : Job I O) → WasRead view g document a b → source_end b.status ≡ 0
not_drawn view g None a b read = let came = read.came in ap source_end came.1 ∙ no_source came.0 came.2.0
not_drawn view g (Some x) a b read = ap source_end read.came.0

-- ---- a job that ended with 5

module _ {F I O : Type 0} (faults : F → ℕ) (n m : ℕ) (before after : List (Worker F)) (jobs now : List (Job I O)) (w : Worker F) (e : Job I O) (long : length before ≡ n) (many : length after ≡ n) (few : FewSourceEnds faults n m before after jobs now)
    (none : (j : ℕ) → j < m → source_end (get_or jobs j e).status ≡ 0) where
  pub source_failed : (k : ℕ) → k < m → (get_or now k e).status ≡ 5 → SomeUsed n before after (SourceRose faults)
  source_failed k lt five = elim (few w e) [
    | inl full ↦ (full.0, full.1, λ d. (full.2 d).0)
    | inr fits ↦
        let were = sum_none (λ j. source_end (get_or jobs j e).status) m none in
        let one : source_end (get_or now k e).status ≡ 1 = ap source_end five in
        let has = sum_has (λ j. source_end (get_or now j e).status) m k lt in
        let some = some_greater (λ i. faults (get_or before i w).source) (λ i. faults (get_or after i w).source) n (omega (arith, fits, were, one, has)) in (
          some.0,
          some.1,
          λ d.
              let a : get_or before some.0 w ≡ get_or before some.0 d = same_default before some.0 w d (omega (arith, long, some.1)) in
              let b : get_or after some.0 w ≡ get_or after some.0 d = same_default after some.0 w d (omega (arith, many, some.1)) in
              inl (subst (λ (x : Worker F). faults x.source < faults (get_or after some.0 d).source) a (subst (λ (x : Worker F). faults (get_or before some.0 w).source < faults x.source) b some.2)),
        )
  ]
