-- The next job that shares a cache is drawn, if it has a document.
use Rattle.std.proofs.Common.{◌≡◌, ◌≢◌, ℕ, ◌+◌, ◌<◌, ◌≤◌, List, length, get_or, set, Option, Some, None, refl, sym, ap, subst, ◌∙◌, arith, ne_eqb}
use Rattle.std.specs.Prelude.{if◌then◌else◌, IfSome, IsSome, MatchOption}
use Rattle.std.proofs.lemmas.Bool.{eq-eqb}
use Rattle.std.proofs.lemmas.List.{get_or-set_same, get_or-set_other, set-get_or}
use mathlib.Core.Logic.{dite}
use native.Mathlib.Decide.{ℕ_discrete}
use Rattle.cache_core.specs.declared.limits.Limits.{Limits}
use Rattle.page_index.specs.Document.{pages_begun}
use Rattle.page_index.specs.Pages.{Indexed, document_units}
use Rattle.pixel_round.specs.declared.units.Units.{Units}
use Rattle.page_workers.specs.declared.bench.Bench.{Bench}
use Rattle.page_workers.specs.declared.worker.Worker.{Worker}
use Rattle.dvi_run.specs.Outside.{Sources, change_of}
use Rattle.dvi_run.specs.Jobs.{DrewJob}
use Rattle.dvi_run.specs.Endings.{Source}
use Rattle.dvi_run.specs.Pages.{Setup}
use Rattle.dvi_run.specs.Rounds.{FailedAt, site}
use Rattle.dvi_run.specs.Together.{SomeUsed}
use Rattle.job_spool.specs.Drawn.{AreFor, AreUndrawn, DrewOne, SharersDrew, drawing_with, left_for}
use Rattle.job_spool.specs.Jobs.{JobView}
use Rattle.job_spool.specs.Sharing.{Documents, caches_of, document_at, pages_in, sharer, units_in}
use Rattle.job_spool.specs.Workers.{FewSourceEnds}
use Rattle.job_spool.specs.declared.job.Job.{Job}
use Rattle.job_spool.proofs.SharersDrawn.{drew_more, drew_past, room_for, same_units}
use Rattle.job_spool.proofs.SourceEnds.{ends_more}

-- ---- whether it shares the cache

pub shares_none : (docs : Documents) (first k : ℕ) → (get_or (caches_of docs) k 0 ≡ first → ⊥) → sharer docs first k ≡ None
shares_none docs first k not = ap (λ b. if b then document_at docs k else None) (ne_eqb (get_or (caches_of docs) k 0) first not)

pub shares_own : (docs : Documents) (first k : ℕ) → get_or (caches_of docs) k 0 ≡ first → sharer docs first k ≡ document_at docs k
shares_own docs first k is =
    ap (λ b. if b then document_at docs k else None) (eq-eqb (get_or (caches_of docs) k 0) first is)

module _ {F I O : Type 0} (g : Setup) (limits : Limits) (sources : Sources F) (view : JobView I O) (bench : Bench) (docs : Documents) (first : ℕ) (jobs : List (Job I O)) (ws : List (Worker F)) (k : ℕ) (now : List (Job I O)) (after later : List (Worker F))
    (job v : Job I O) (inside : k < length now) (many : length now ≡ length jobs) (known : length docs ≡ length jobs) (long : length after ≡ length ws) (longer : length later ≡ length ws) (kept : (j : ℕ) (d : Job I O) → k ≤ j → get_or now j d ≡ get_or jobs j d)
    (at : (d : Job I O) → get_or now k d ≡ job) (own : get_or (caches_of docs) k 0 ≡ first) where
  abbrev Drew : ℕ → List (Job I O) → List (Worker F) → Job I O → Type 0
  Drew n is us d = SharersDrew (drawing_with g limits sources view jobs is d ws us) g.library bench docs first n

  abbrev One : Indexed → Type 0
  One x = DrewOne sources g.library bench g.sheet view x after later job v

  abbrev Came : Option Indexed → Type 0
  Came o = MatchOption o ((v ≡ job) × (later ≡ after)) One

  unchanged : v ≡ job → (d : Job I O) → set now k v ≡ now
  unchanged same d = ap (set now k) (same ∙ sym (at d)) ∙ set-get_or now k d

  pub drew_next : (o : Option Indexed) → document_at docs k ≡ o → AreFor g.res docs → Came o → (d : Job I O) → Worker F → Drew k now after d → Drew (k + 1) (set now k v) later d
  drew_next None is for came d w drew =
      let past : Drew (k + 1) now after d = drew_past g limits sources view bench docs first jobs d ws k now after drew (shares_own docs first k own ∙ is) in
      subst (λ (l : List (Job I O)). Drew (k + 1) l later d) (sym (unchanged came.0 d)) (subst (λ (l : List (Worker F)). Drew (k + 1) now l d) (sym came.1) past)
  drew_next (Some x) is for one d w drew =
      let was : get_or jobs k d ≡ job = sym (kept k d (omega arith)) ∙ at d in
      let fits = subst (λ (o : Option Indexed). IfSome o (λ y. (y.res ≡ g.res) × (pages_begun y.reading ≤ 1000000))) is (for k) in
      let did : DrewJob (site sources.library sources.faults sources.loads bench g.library x g.sheet) (change_of view.written view.writes (get_or jobs k d).out v.out) after later one.ending =
      subst (λ (y : Job I O). DrewJob (site sources.library sources.faults sources.loads bench g.library x g.sheet) (change_of view.written view.writes y.out v.out) after later one.ending) (sym was) one.drew in
      drew_more g limits sources view bench docs first jobs d ws k now after drew x g.sheet v later one.ending w (shares_own docs first k own ∙ is) fits.0 refl one.status one.answers did long inside longer g.res for (omega (arith, inside, many, known))

  pub others_next : (o : Option Indexed) → document_at docs k ≡ o → Came o → ((j : ℕ) (d : Job I O) → sharer docs first j ≡ None → get_or now j d ≡ get_or jobs j d) → (j : ℕ) (d : Job I O) → sharer docs first j ≡ None → get_or (set now k v) j d ≡ get_or jobs j d
  others_next None is came others j d none = ap (λ (l : List (Job I O)). get_or l j d) (unchanged came.0 d) ∙ others j d none
  others_next (Some x) is one others j d none =
      let other : j ≢ k = λ e. absurd (let shares : sharer docs first j ≡ Some x = subst (λ (n : ℕ). sharer docs first n ≡ Some x) (sym e) (shares_own docs first k own ∙ is) in cc (shares, none)) in
      get_or-set_other now k j v d other ∙ others j d none

  pub same_input : (o : Option Indexed) → Came o → v.input ≡ job.input
  same_input None came = ap (λ x. x.input) came.0
  same_input (Some x) one = one.input

  pub same_history : (o : Option Indexed) → Came o → v.history ≡ job.history
  same_history None came = ap (λ x. x.history) came.0
  same_history (Some x) one = one.history

  pub field_next : {A : Type 0} (f : Job I O → A) → f v ≡ f job → ((j : ℕ) (d : Job I O) → f (get_or now j d) ≡ f (get_or jobs j d)) → (j : ℕ) (d : Job I O) → f (get_or (set now k v) j d) ≡ f (get_or jobs j d)
  field_next f same was j d = dite (ℕ_discrete j k)
      (λ e. subst (λ (n : ℕ). f (get_or (set now k v) n d) ≡ f (get_or jobs n d)) (sym e) (ap f (get_or-set_same now k v d inside) ∙ same ∙ ap f (sym (at d)) ∙ was k d))
      (λ other. ap f (get_or-set_other now k j v d other) ∙ was j d)

  pub few_next : (o : Option Indexed) → document_at docs k ≡ o → Came o → AreUndrawn docs first jobs → ((i : ℕ) (u : Worker F) → i < length ws → sources.faults (get_or ws i u).source ≤ sources.faults (get_or after i u).source) → Job I O
      → FewSourceEnds sources.faults (length ws) (length jobs) ws after jobs now → FewSourceEnds sources.faults (length ws) (length jobs) ws later jobs (set now k v)
  few_next None is came undrawn grew d few =
      subst (λ (l : List (Job I O)). FewSourceEnds sources.faults (length ws) (length jobs) ws later jobs l) (sym (unchanged came.0 d))
      (subst (λ (l : List (Worker F)). FewSourceEnds sources.faults (length ws) (length jobs) ws l jobs now) (sym came.1) few)
  few_next (Some x) is one undrawn grew d few =
      let there : IsSome (sharer docs first k) = subst (λ (o : Option Indexed). IsSome o) (sym (shares_own docs first k own ∙ is)) refl in
      let nine : (e : Job I O) → (get_or now k e).status ≡ 9 = λ e. ap (λ y. y.status) (kept k e (omega arith)) ∙ undrawn k e (omega (arith, inside, many)) there in
      ends_more sources.faults (length ws) ws after later grew (λ i u lt. (one.drew.worked i u (omega (arith, lt, long))).faults) (length jobs) k jobs now v inside (omega (arith, inside, many)) longer nine one.ending one.status
      (subst (λ (n : ℕ). (page : ℕ) → one.ending ≡ Source page → SomeUsed n after later (FailedAt sources.faults page)) long one.drew.failed) few

-- ---- what it asks of the workers

pub units_fit : (docs : Documents) (first k : ℕ) (u : Units) → get_or (caches_of docs) k 0 ≡ first → k < length docs → units_in (document_at docs first) ≡ Some u → IfSome (document_at docs k) (λ x. document_units x.res x.reading ≡ Some u)
units_fit docs first k u own here units = fits (document_at docs k) refl
  where
    fits : (o : Option Indexed) → document_at docs k ≡ o → IfSome o (λ x. document_units x.res x.reading ≡ Some u)
    fits None is = tt
    fits (Some x) is = sym (ap units_in is) ∙ same_units docs first k x (shares_own docs first k own ∙ is) here ∙ units

pub pages_fit : (docs : Documents) (first k res : ℕ) → get_or (caches_of docs) k 0 ≡ first → k < length docs → AreFor res docs → pages_in (document_at docs k) ≤ left_for docs first k
pages_fit docs first k res own here for = fits (document_at docs k) refl
  where
    fits : (o : Option Indexed) → document_at docs k ≡ o → pages_in o ≤ left_for docs first k
    fits None is = omega arith
    fits (Some x) is = let room = room_for docs first k x (shares_own docs first k own ∙ is) res for here in omega (arith, room)
