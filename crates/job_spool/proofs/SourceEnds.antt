-- Jobs that end with 5 are no more than the failures of the sources.
use Rattle.std.proofs.Common.{◌≡◌, ◌⊎◌, inl, inr, ℕ, ◌+◌, ◌-◌, ◌<◌, ◌≤◌, List, length, get_or, set, refl, sym, ap, subst, ◌∙◌, arith}
use Rattle.std.specs.Prelude.{◌^◌}
use Rattle.std.proofs.lemmas.List.{get_or-set_same, get_or-set_other}
use Rattle.outside.specs.Counts.{Rose}
use Rattle.outside.proofs.Growth.{rose_before, rose_later}
use Rattle.page_workers.specs.declared.worker.Worker.{Worker}
use Rattle.page_workers.proofs.Lists.{same_default}
use Rattle.dvi_run.specs.Endings.{EndingValue, Written, Usage, Document, Page, Source, Input, Output, Notes, Memory, status_of}
use Rattle.dvi_run.specs.Rounds.{FailedAt}
use Rattle.dvi_run.specs.Together.{SomeUsed}
use Rattle.dvi_run.proofs.Clauses.{at_page}
use Rattle.job_spool.specs.Workers.{CountIsFull, FewSourceEnds, failures, source_end, source_ends}
use Rattle.job_spool.specs.declared.job.Job.{Job}
use Rattle.job_spool.proofs.Sums.{sum_changed, sum_greater, sum_more, sum_same}

-- an end with 5 names a page
pub by_source : (e : EndingValue) → (source_end (status_of e) ≡ 0) ⊎ ((page : ℕ) × (e ≡ Source page))
by_source Written = inl refl
by_source Usage = inl refl
by_source (Document fault) = inl refl
by_source (Page page) = elim (at_page page.fault) [ inl three ↦ inl (ap source_end three) | inr four ↦ inl (ap source_end four) ]
by_source (Source page) = inr (page, refl)
by_source Input = inl refl
by_source (Output page) = inl refl
by_source Notes = inl refl
by_source Memory = inl refl

at_most_one : (e : EndingValue) → source_end (status_of e) ≤ 1
at_most_one Written = omega arith
at_most_one Usage = omega arith
at_most_one (Document fault) = omega arith
at_most_one (Page page) = let none = elim (by_source (Page page)) as (λ _. source_end (status_of (Page page)) ≤ 1) [ inl zero ↦ omega (arith, zero) | inr source ↦ absurd (let is = source.1 in cc) ] in none
at_most_one (Source page) = omega arith
at_most_one Input = omega arith
at_most_one (Output page) = omega arith
at_most_one Notes = omega arith
at_most_one Memory = omega arith

module _ {F : Type 0} (faults : F → ℕ) (n : ℕ) (start before after : List (Worker F)) (le : (i : ℕ) (d : Worker F) → i < n → faults (get_or start i d).source ≤ faults (get_or before i d).source)
    (more : (i : ℕ) (d : Worker F) → i < n → faults (get_or before i d).source ≤ faults (get_or after i d).source) where
  pub full_later : CountIsFull faults n start before → CountIsFull faults n start after
  full_later full = (
    full.0,
    full.1,
    λ d.
        let a = le full.0 d full.1 in
        let b = more full.0 d full.1 in
        let last = (full.2 d).1 in
        (rose_before _ _ _ a (full.2 d).0 b, omega (arith, last, b)),
  )

  failures_more : (d : Worker F) → failures faults n before d ≤ failures faults n after d
  failures_more d = sum_more _ _ n (λ i lt. more i d lt)

  -- a source that failed, where its count may be full
  failed_more : length after ≡ n → (d : Worker F) (page : ℕ) → SomeUsed n before after (FailedAt faults page) → CountIsFull faults n start after ⊎ (failures faults n before d + 1 ≤ failures faults n after d)
  failed_more long d page f = elim (f.2 d).rose [
    | inl lt ↦ inr (sum_greater _ _ n f.0 f.1 (λ i l. more i d l) lt)
    | inr last ↦ inl (
      f.0,
      f.1,
      λ e.
          let same : get_or after f.0 d ≡ get_or after f.0 e = same_default after f.0 d e (omega (arith, long, f.1)) in
          let is : faults (get_or after f.0 e).source ≡ 2 ^ 64 - 1 = ap (λ w. faults w.source) (sym same) ∙ last in
          (rose_later _ _ _ (le f.0 e f.1) (f.2 e).rose (more f.0 e f.1), omega (arith, is)),
    )
  ]

  module _ {I O : Type 0} (m k : ℕ) (jobs now : List (Job I O)) (v : Job I O) (inside : k < length now) (few : k < m) where
    ends_changed : (e : Job I O) → (get_or now k e).status ≡ 9 → source_ends m (set now k v) e ≡ source_ends m now e + source_end v.status
    ends_changed e nine =
        let changed = sum_changed (λ j. source_end (get_or (set now k v) j e).status) (λ j. source_end (get_or now j e).status) m k few (λ j other. ap (λ x. source_end x.status) (get_or-set_other now k j v e other)) in
        let was : source_end (get_or now k e).status ≡ 0 = ap source_end nine in
        let is : source_end (get_or (set now k v) k e).status ≡ source_end v.status = ap (λ x. source_end x.status) (get_or-set_same now k v e inside) in
        omega (arith, changed, was, is)

    -- and a job that was drawn
    pub ends_more : length after ≡ n → ((e : Job I O) → (get_or now k e).status ≡ 9) → (e : EndingValue) → v.status ≡ status_of e → ((page : ℕ) → e ≡ Source page → SomeUsed n before after (FailedAt faults page))
        → FewSourceEnds faults n m start before jobs now → FewSourceEnds faults n m start after jobs (set now k v)
    ends_more long nine e is failed few_ends d j = elim (few_ends d j) [
      | inl full ↦ inl (full_later full)
      | inr fits ↦ elim (by_source e) [
        | inl zero ↦
            let none : source_end v.status ≡ 0 = ap source_end is ∙ zero in
            let changed = ends_changed j (nine j) in
            let more_failures = failures_more d in
            inr (omega (arith, fits, none, changed, more_failures))
        | inr source ↦ elim (failed_more long d source.0 (failed source.0 source.1)) [
          | inl full ↦ inl full
          | inr one ↦
              let most = at_most_one e in
              let same : source_end v.status ≡ source_end (status_of e) = ap source_end is in
              let changed = ends_changed j (nine j) in
              inr (omega (arith, fits, most, same, changed, one))
        ]
      ]
    ]

pub no_ends : {F I O : Type 0} (faults : F → ℕ) (n m : ℕ) (ws : List (Worker F)) (jobs : List (Job I O)) → FewSourceEnds faults n m ws ws jobs jobs
no_ends faults n m ws jobs d e = inr (omega arith)

-- ---- several caches

module _ {F : Type 0} (faults : F → ℕ) (n : ℕ) (starts befores afters : List (Worker F)) (le : (i : ℕ) (d : Worker F) → i < n → faults (get_or starts i d).source ≤ faults (get_or befores i d).source)
    (more : (i : ℕ) (d : Worker F) → i < n → faults (get_or befores i d).source ≤ faults (get_or afters i d).source) where
  full_sooner : CountIsFull faults n befores afters → CountIsFull faults n starts afters
  full_sooner full = (
    full.0,
    full.1,
    λ d.
        let a = le full.0 d full.1 in
        let b = more full.0 d full.1 in
        (rose_later _ _ _ a (full.2 d).0 b, (full.2 d).1),
  )

  pub ends_then : {I O : Type 0} (m : ℕ) (jobs now new : List (Job I O)) → FewSourceEnds faults n m starts befores jobs now → FewSourceEnds faults n m befores afters now new → FewSourceEnds faults n m starts afters jobs new
  ends_then m jobs now new p q d e = elim (p d e) [
    | inl full ↦ inl (full_later faults n starts befores afters le more full)
    | inr one ↦ elim (q d e) [
      | inl full ↦ inl (full_sooner full)
      | inr two ↦ inr (omega (arith, one, two))
    ]
  ]

-- by workers with the same sources, and jobs that ended alike
pub ends_as : {F I O : Type 0} (faults : F → ℕ) (n m : ℕ) (starts ends others lasts : List (Worker F)) (jobs now new : List (Job I O)) → ((i : ℕ) (d : Worker F) → i < n → (get_or starts i d).source ≡ (get_or others i d).source)
    → ((i : ℕ) (d : Worker F) → i < n → (get_or ends i d).source ≡ (get_or lasts i d).source) → ((k : ℕ) (e : Job I O) → (get_or now k e).status ≡ (get_or new k e).status) → FewSourceEnds faults n m starts ends jobs now → FewSourceEnds faults n m others lasts jobs new
ends_as {F} {I} {O} faults n m starts ends others lasts jobs now new before after ended few d e = elim (few d e) [
  | inl full ↦ inl (
    full.0,
    full.1,
    λ u.
        let f = full.2 u in
        let a = before full.0 u full.1 in
        let b = after full.0 u full.1 in (
          subst (λ (x : F). Rose (faults x) (faults (get_or lasts full.0 u).source)) a (subst (λ (x : F). Rose (faults (get_or starts full.0 u).source) (faults x)) b f.0),
          subst (λ (x : F). 2 ^ 64 - 1 ≤ faults x) b f.1,
        ),
  )
  | inr fits ↦
      let first : failures faults n starts d ≡ failures faults n others d = sum_same _ _ n (λ i lt. ap faults (before i d lt)) in
      let last : failures faults n ends d ≡ failures faults n lasts d = sum_same _ _ n (λ i lt. ap faults (after i d lt)) in
      let ended_alike : source_ends m now e ≡ source_ends m new e = sum_same _ _ m (λ k lt. ap source_end (ended k e)) in
      inr (omega (arith, fits, first, last, ended_alike))
]
