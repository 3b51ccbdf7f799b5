-- A cache that was drawn over: its history, and that it is kept while others follow.
use Rattle.std.proofs.Common.{◌≡◌, ◌≢◌, inl, inr, ℕ, Bool, true, false, ◌+◌, ◌<◌, ◌≤◌, arith, List, length, get_or, set, Option, Some, None, refl, sym, ap, subst, ◌∙◌}
use Rattle.std.specs.Prelude.{◌==◌, if◌then◌else◌, IsSome}
use Rattle.std.proofs.Common.{ne_eqb}
use Rattle.std.proofs.lemmas.Bool.{cases_lt}
use Rattle.std.proofs.lemmas.List.{get_or-set_same, get_or-set_other}
use Rattle.std.proofs.lemmas.List.Elements.{All-weaker}
use mathlib.Core.Logic.{dite}
use native.Mathlib.Decide.{ℕ_discrete}
use Rattle.outside.specs.Library.{FileTable}
use Rattle.outside.proofs.Growth.{rose_before, rose_later}
use Rattle.cache_core.specs.declared.calls.Call.{Call}
use Rattle.cache_core.specs.declared.limits.Limits.{Limits}
use Rattle.cache_core.specs.Views.{calls_of}
use Rattle.page_workers.specs.declared.bench.Bench.{Bench}
use Rattle.page_workers.specs.declared.worker.Worker.{Worker}
use Rattle.dvi_run.specs.Outside.{Sources, change_of}
use Rattle.dvi_run.specs.Reading.{input_change}
use Rattle.dvi_run.specs.Pages.{Setup}
use Rattle.dvi_run.specs.Together.{SourceRose}
use Rattle.job_spool.specs.Caches.{Drawing, HasCache, HasNoCache, IsHistoryOf, KeepsCache}
use Rattle.job_spool.specs.Drawn.{LeftAlone, SharersDrew}
use Rattle.job_spool.specs.Jobs.{JobChange, JobView, job_change, jobs_change}
use Rattle.job_spool.specs.Parts.{IsPart, Part}
use Rattle.job_spool.specs.Sharing.{Documents, caches_of, document_at, sharer}
use Rattle.job_spool.specs.declared.job.Job.{Job}
use Rattle.job_spool.proofs.PartsDrawn.{part_as}
use Rattle.job_spool.proofs.SharersDrawn.{in_cache}

-- ---- sharers

pub is_there : {A : Type 0} (o : Option A) (x : A) → o ≡ Some x → IsSome o
is_there o x is = subst (λ (p : Option _). IsSome p) (sym is) refl

pub there_is : {A : Type 0} (o : Option A) → IsSome o → (x : A) × (o ≡ Some x)
there_is None some = absurd cc
there_is (Some x) some = (x, refl)

-- a job shares one cache only
pub shares_once : (docs : Documents) (first other k : ℕ) → (other ≡ first → ⊥) → IsSome (sharer docs first k) → sharer docs other k ≡ None
shares_once docs first other k not some =
    let x = there_is (sharer docs first k) some in
    let at : get_or (caches_of docs) k 0 ≡ first = in_cache docs first k x.0 x.1 in
    let differs : (get_or (caches_of docs) k 0 == other) ≡ false = ne_eqb (get_or (caches_of docs) k 0) other (λ e. not (sym e ∙ at)) in
    ap (λ b. if b then document_at docs k else None) differs

-- a field of all jobs, where that of a new one is as it was
pub field_kept : {I O A : Type 0} (f : Job I O → A) (now : List (Job I O)) (first : ℕ) (v d : Job I O) → first < length now → f v ≡ f (get_or now first d) → (k : ℕ) → f (get_or (set now first v) k d) ≡ f (get_or now k d)
field_kept f now first v d there same k = dite (ℕ_discrete k first)
    (λ e. subst (λ (j : ℕ). f (get_or (set now first v) j d) ≡ f (get_or now j d)) (sym e) (ap f (get_or-set_same now first v d there) ∙ same))
    (λ other. ap f (get_or-set_other now first k v d other))

-- ---- other streams

module _ {F I O : Type 0} (g : Setup) (limits : Limits) (sources : Sources F) (view : JobView I O) (docs : Documents) (first n m : ℕ) (d : Job I O) where
  abbrev pub drawn_by : (jobs now : List (Job I O)) (before after : List (Worker F)) → Drawing F
  drawn_by jobs now before after = record {
    given = g;
    limits = limits;
    workers = n;
    sources = sources;
    count = m;
    jobs = jobs_change view jobs now d;
    before = before;
    after = after;
  }

  abbrev pub Failed : (before after : List (Worker F)) → ℕ → Type 0
  Failed before after i = (u : Worker F) → SourceRose sources.faults (get_or before i u) (get_or after i u)

  abbrev change : Job I O → O → ℕ → Job I O → JobChange
  change a o s c = record {
    input = input_change view.left view.taken view.ended view.reads a.input c.input;
    output = change_of view.written view.writes a.out o;
    status = s;
    history = calls_of c.history.items;
  }

  -- a part says nothing of the job's input and history
  part_of_same : (Fails : ℕ → Type 0) (a b c : Job I O) (p : Part) → c.out ≡ b.out → c.status ≡ b.status → IsPart g n Fails docs first (job_change view a b) p → IsPart g n Fails docs first (job_change view a c) p
  part_of_same Fails a b c p out status part =
      let here : IsPart g n Fails docs first (change a b.out b.status c) p = record {
        document = part.document;
        status = part.status;
        answers = part.answers;
        ends = part.ends;
        few = part.few;
        dealt = part.dealt;
        written = part.written;
        seats = part.seats;
      } in
      subst (λ (s : ℕ). IsPart g n Fails docs first (change a c.out s c) p) (sym status) (subst (λ (o : O). IsPart g n Fails docs first (change a o b.status c) p) (sym out) here)

  -- ---- other workers and jobs

  module _ (jobs now old new : List (Job I O)) (ws vs us zs : List (Worker F)) (failed : (i : ℕ) → i < n → Failed ws vs i → Failed us zs i)
      (same : (k : ℕ) → IsSome (sharer docs first k) → (get_or old k d ≡ get_or jobs k d) × (get_or new k d ≡ get_or now k d)) (history : (get_or new first d).history ≡ (get_or now first d).history) where
    history_is : calls_of (get_or new first d).history.items ≡ calls_of (get_or now first d).history.items
    history_is = ap (λ h. calls_of h.items) history

    none_carried : HasNoCache (drawn_by jobs now ws vs) docs first → HasNoCache (drawn_by old new us zs) docs first
    none_carried none = record {
      history = history_is ∙ none.history;
      ended = λ k lt shares.
          subst (λ (a : Job I O). ((get_or new k d).status ≡ 9) × ((get_or new k d).out ≡ a.out)) (sym (same k shares).0)
          (subst (λ (b : Job I O). (b.status ≡ 9) × (b.out ≡ (get_or jobs k d).out)) (sym (same k shares).1) (none.ended k lt shares));
    }

    abbrev PartNow : Part → Type 0
    PartNow p = (p.job < m) × IsPart g n (Failed ws vs) docs first (job_change view (get_or jobs p.job d) (get_or now p.job d)) p

    abbrev PartLater : Part → Type 0
    PartLater p = (p.job < m) × IsPart g n (Failed us zs) docs first (job_change view (get_or old p.job d) (get_or new p.job d)) p

    part_carried : (p : Part) → PartNow p → PartLater p
    part_carried p at =
        let s = same p.job (is_there (sharer docs first p.job) _ at.1.document) in (
          at.0,
          subst (λ (a : Job I O). IsPart g n (Failed us zs) docs first (job_change view a (get_or new p.job d)) p) (sym s.0)
              (subst (λ (b : Job I O). IsPart g n (Failed us zs) docs first (job_change view (get_or jobs p.job d) b) p) (sym s.1)
              (part_as g n (Failed ws vs) (Failed us zs) docs first (job_change view (get_or jobs p.job d) (get_or now p.job d)) p failed at.1)),
        )

    one_carried : HasCache (drawn_by jobs now ws vs) docs first → HasCache (drawn_by old new us zs) docs first
    one_carried cache = record {
      parts = cache.parts;
      shared = cache.shared;
      each = All-weaker PartNow PartLater part_carried cache.parts cache.each;
      one = subst (λ (h : List Call). IsHistoryOf limits n cache.parts h) (sym history_is) cache.one;
    }

    pub carried : KeepsCache (drawn_by jobs now ws vs) docs first → KeepsCache (drawn_by old new us zs) docs first
    carried (inl none) = inl (none_carried none)
    carried (inr one) = inr (one_carried one)

  -- ---- a cache that is closed

  module _ (jobs now : List (Job I O)) (v : Job I O) (there : first < length now) (out : v.out ≡ (get_or now first d).out) (status : v.status ≡ (get_or now first d).status) where
    module _ (known : Option FileTable) (bench : Bench) (ws vs us zs : List (Worker F)) (failed : (i : ℕ) → i < n → Failed ws vs i → Failed us zs i) (drew : SharersDrew (drawn_by jobs now ws vs) known bench docs first m)
        (one : IsHistoryOf limits n drew.parts (calls_of v.history.items)) where
      abbrev PartDrawn : Part → Type 0
      PartDrawn p = (p.job < m) × IsPart g n (Failed ws vs) docs first (job_change view (get_or jobs p.job d) (get_or now p.job d)) p

      abbrev PartClosed : Part → Type 0
      PartClosed p = (p.job < m) × IsPart g n (Failed us zs) docs first (job_change view (get_or jobs p.job d) (get_or (set now first v) p.job d)) p

      part_closed : (p : Part) → PartDrawn p → PartClosed p
      part_closed p at = (
        at.0,
        part_of_same (Failed us zs) (get_or jobs p.job d) (get_or now p.job d) (get_or (set now first v) p.job d) p (field_kept (λ x. x.out) now first v d there out p.job) (field_kept (λ x. x.status) now first v d there status p.job)
            (part_as g n (Failed ws vs) (Failed us zs) docs first (job_change view (get_or jobs p.job d) (get_or now p.job d)) p failed at.1),
      )

      pub closed : HasCache (drawn_by jobs (set now first v) us zs) docs first
      closed = record {
        parts = drew.parts;
        shared = drew.shared;
        each = All-weaker PartDrawn PartClosed part_closed drew.parts drew.each;
        one = subst (λ (h : List Call). IsHistoryOf limits n drew.parts h) (sym (ap (λ x. calls_of x.history.items) (get_or-set_same now first v d there))) one;
      }

-- ---- one cache after another

module _ {F I O : Type 0} (g : Setup) (limits : Limits) (sources : Sources F) (view : JobView I O) (docs : Documents) (first n m : ℕ) (d : Job I O) (jobs now new : List (Job I O)) (ws vs us : List (Worker F))
    (untouched : (j k : ℕ) → first ≤ j → IsSome (sharer docs j k) → get_or now k d ≡ get_or jobs k d) (alone : LeftAlone docs first now new) (history : (k : ℕ) → k ≢ first → (get_or new k d).history ≡ (get_or now k d).history)
    (grew : (i : ℕ) (u : Worker F) → i < n → sources.faults (get_or ws i u).source ≤ sources.faults (get_or vs i u).source) (more : (i : ℕ) (u : Worker F) → i < n → sources.faults (get_or vs i u).source ≤ sources.faults (get_or us i u).source) where
  abbrev Kept : (jobs now : List (Job I O)) (before after : List (Worker F)) → ℕ → Type 0
  Kept was is before after j = KeepsCache (drawn_by g limits sources view docs first n m d was is before after) docs j

  still_kept : (j : ℕ) → j < first → Kept jobs now ws vs j → Kept jobs new ws us j
  still_kept j lt =
      carried g limits sources view docs j n m d jobs now jobs new ws vs ws us (λ i below f u. rose_before _ _ _ (grew i u below) (f u) (more i u below)) (λ k some. (refl, alone.others k d (shares_once docs j first k (λ e. omega (arith, lt, e)) some)))
      (history j (λ e. omega (arith, lt, e)))

  newly_kept : Kept now new vs us first → Kept jobs new ws us first
  newly_kept = carried g limits sources view docs first n m d now new jobs new vs us ws us (λ i below f u. rose_later _ _ _ (grew i u below) (f u) (more i u below)) (λ k some. (sym (untouched first k (omega arith) some), refl)) refl

  pub all_kept : ((j : ℕ) → j < first → Kept jobs now ws vs j) → Kept now new vs us first → (j : ℕ) → j < first + 1 → Kept jobs new ws us j
  all_kept before here j lt = elim (cases_lt j first) [
    | inl below ↦ still_kept j below (before j below)
    | inr at ↦ let same : first ≡ j = omega (arith, lt, at) in subst (λ (i : ℕ). Kept jobs new ws us i) same (newly_kept here)
  ]

  pub still_untouched : (j k : ℕ) → first + 1 ≤ j → IsSome (sharer docs j k) → get_or new k d ≡ get_or jobs k d
  still_untouched j k le some = alone.others k d (shares_once docs j first k (λ e. omega (arith, le, e)) some) ∙ untouched j k (omega (arith, le)) some

pub no_document : (docs : Documents) (first k : ℕ) → document_at docs k ≡ None → sharer docs first k ≡ None
no_document docs first k none = by_choice (get_or (caches_of docs) k 0 == first)
  where
    by_choice : (b : Bool) → (if b then document_at docs k else None) ≡ None
    by_choice true = none
    by_choice false = refl
