-- The caches of a run, as they were seen by the drawing of its jobs, and their one worker.
use Rattle.std.proofs.Common.{◌≡◌, ◌≢◌, inl, inr, ℕ, ◌+◌, ◌<◌, List, [], ◌∷◌, ◌++◌, get_or, refl, sym, ap, subst, ◌∙◌, arith, eq-eqb, ne_eqb}
use Rattle.std.specs.List.{All, flat_map}
use Rattle.std.proofs.lemmas.List.Elements.{All-head, All-tail, All-weaker}
use mathlib.Core.Logic.{dite}
use native.Mathlib.Decide.{ℕ_discrete}
use Rattle.cache_core.specs.Histories.{AreOf, NoneReleased, SeatCalls, looks, own}
use Rattle.cache_core.specs.Views.{calls_of}
use Rattle.cache_core.specs.declared.calls.Call.{Call}
use Rattle.cache_core.proofs.SeatCalls.{calls_are_joined}
use Rattle.cache_core.proofs.Solo.{solo_is_one}
use Rattle.turn_lock.specs.Histories.{AllMade}
use Rattle.turn_lock.proofs.Histories.{alone_is_history}
use Rattle.dvi_run.specs.Endings.{status_of}
use Rattle.dvi_run.specs.Outside.{change_of}
use Rattle.dvi_run.specs.Reading.{input_change}
use Rattle.dvi_run.specs.Pages.{Setup}
use Rattle.job_spool.specs.Caches.{Drawing, HasFailed, IsMachineRun, KeepsCache}
use Rattle.job_spool.specs.Jobs.{JobChange, JobView, job_change, jobs_change}
use Rattle.job_spool.specs.Parts.{IsPart, Part}
use Rattle.job_spool.specs.Sharing.{Documents}
use Rattle.job_spool.specs.declared.job.Job.{Job}

-- ---- from the jobs that were read

module _ {I O : Type 0} (view : JobView I O) (g : Setup) (workers : ℕ) (Failed : ℕ → Type 0) (documents : Documents) (first : ℕ) (p : Part) (a b c : Job I O) (same : b.out ≡ a.out) where
  abbrev Since : O → JobChange
  Since o =
      record { input = input_change view.left view.taken view.ended view.reads a.input c.input; output = change_of view.written view.writes o c.out; status = c.status; history = calls_of c.history.items }

  part_since : IsPart g workers Failed documents first (job_change view b c) p → IsPart g workers Failed documents first (job_change view a c) p
  part_since part = subst (λ (o : O). IsPart g workers Failed documents first (Since o) p) same (record {
    document = part.document;
    status = part.status;
    answers = part.answers;
    ends = part.ends;
    few = part.few;
    dealt = part.dealt;
    written = part.written;
    seats = part.seats;
  })

module _ {F I O : Type 0} (drawing : Drawing F) (view : JobView I O) (jobs read now : List (Job I O)) (d : Job I O) (documents : Documents) (first : ℕ)
    (same : (k : ℕ) → k < drawing.count → (get_or read k d).out ≡ (get_or jobs k d).out) where
  abbrev Later : Drawing F
  Later = record drawing { jobs = jobs_change view read now d }

  abbrev Whole : Drawing F
  Whole = record drawing { jobs = jobs_change view jobs now d }

  abbrev PartLater : Part → Type 0
  PartLater p = (p.job < drawing.count) × IsPart drawing.given drawing.workers (HasFailed drawing) documents first (job_change view (get_or read p.job d) (get_or now p.job d)) p

  abbrev PartWhole : Part → Type 0
  PartWhole p = (p.job < drawing.count) × IsPart drawing.given drawing.workers (HasFailed drawing) documents first (job_change view (get_or jobs p.job d) (get_or now p.job d)) p

  pub cache_since : KeepsCache Later documents first → KeepsCache Whole documents first
  cache_since kept = elim kept [
    | inl none ↦ inl (record { history = none.history; ended = λ k lt shares. let end = none.ended k lt shares in (end.0, end.1 ∙ same k lt) })
    | inr cache ↦
        inr (record {
          parts = cache.parts;
          shared = cache.shared;
          each = All-weaker PartLater PartWhole
              (λ p at. (at.0, part_since view drawing.given drawing.workers (HasFailed drawing) documents first p (get_or jobs p.job d) (get_or read p.job d) (get_or now p.job d) (same p.job at.0) at.1)) cache.parts cache.each;
          one = cache.one;
        })
  ]

-- ---- one worker

-- a history with calls of one seat alone
are_of : (history : List Call) → AllMade 2 history → own 0 history ≡ [] → AreOf 1 history
are_of [] made none = tt
are_of (c ∷ calls) made none = dite (ℕ_discrete c.seat 0)
    (λ e. let mine : own 0 (c ∷ calls) ≡ c ∷ own 0 calls = rw (eq-eqb c.seat 0 e) refl in absurd (cc (sym mine ∙ none)))
    (λ not. let rest : own 0 (c ∷ calls) ≡ own 0 calls = rw (ne_eqb c.seat 0 not) refl in (omega (arith, made.0, not), are_of calls made.1 (sym rest ∙ none)))

none_joined : (xs ys : List Call) → NoneReleased xs → NoneReleased ys → NoneReleased (xs ++ ys)
none_joined [] ys first others = others
none_joined (c ∷ xs) ys first others = (first.0, none_joined xs ys first.1 others)

abbrev Answered : Part → Type 0
Answered p = NoneReleased (p.calls 0) × SeatCalls (looks (p.calls 0)) (p.calls 0)

none_released : (parts : List Part) → All Answered parts → NoneReleased (flat_map (λ (p : Part). p.calls 0) parts)
none_released [] all = tt
none_released (p ∷ parts) all = none_joined (p.calls 0) (flat_map (λ (q : Part). q.calls 0) parts) (All-head Answered p parts all).0 (none_released parts (All-tail Answered p parts all))

all_answered : (parts : List Part) → All Answered parts → SeatCalls (flat_map (λ (p : Part). looks (p.calls 0)) parts) (flat_map (λ (p : Part). p.calls 0) parts)
all_answered [] all = refl
all_answered (p ∷ parts) all =
    calls_are_joined (looks (p.calls 0)) (flat_map (λ (q : Part). looks (q.calls 0)) parts) (p.calls 0) (flat_map (λ (q : Part). q.calls 0) parts) (All-head Answered p parts all).1 (all_answered parts (All-tail Answered p parts all))

-- a job's part that neither its source nor want of memory broke off
whole_part : (g : Setup) (workers : ℕ) (Failed : ℕ → Type 0) (documents : Documents) (first : ℕ) (job : JobChange) (p : Part) → workers ≡ 1 → (Failed 0 → ⊥) → status_of p.ending ≢ 9 → IsPart g workers Failed documents first job p → Answered p
whole_part g workers Failed documents first job p single sound ends part =
    let seat = part.seats 0 (omega (arith, single)) in (
      elim seat.looked [
        | inl whole ↦ whole.0
        | inr broke ↦ elim broke.may_break.1 [ inl failed ↦ absurd (sound failed) | inr want ↦ absurd (ends (ap status_of (want.1 single))) ]
      ],
      seat.answered,
    )

pub machine_run : {F : Type 0} (drawing : Drawing F) (documents : Documents) (first : ℕ) → IsMachineRun drawing documents first
machine_run drawing documents first single sound cache ends weight weighs =
    let history = (drawing.jobs first).history in
    let parts = cache.parts in
    let one = cache.one in
    let answered : All Answered parts = λ i q lt.
    whole_part drawing.given drawing.workers (HasFailed drawing) documents first (drawing.jobs (get_or parts i q).job) (get_or parts i q) single sound (ends i q lt) (cache.each i q lt).1 in
    let made : AllMade 2 history = subst (λ (m : ℕ). AllMade (m + 1) history) single one.made in
    let whole : own 1 history ≡ history = alone_is_history 2 1 history made (λ other lt not. let zero_is : 0 ≡ other = omega (arith, lt, not) in subst (λ (m : ℕ). own m history ≡ []) zero_is one.none_of_first) in
    let calls : own 1 history ≡ flat_map (λ (p : Part). p.calls 0) parts = one.calls 0 (omega (arith, single)) in
    let are : flat_map (λ (p : Part). p.calls 0) parts ≡ history = sym calls ∙ whole in
    solo_is_one drawing.limits 1 weight (flat_map (λ (p : Part). looks (p.calls 0)) parts) history (record {
      legal = one.legal;
      own = are_of history made one.none_of_first;
      for_keys = subst (SeatCalls (flat_map (λ (p : Part). looks (p.calls 0)) parts)) are (all_answered parts answered);
      kept = subst NoneReleased are (none_released parts answered);
      weighed = weighs;
    })
