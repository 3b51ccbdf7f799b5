-- Jobs that keep no history: those without a document, and those that aren't the first of their
-- cache.
use Rattle.std.proofs.Common.{◌≡◌, inl, inr, ℕ, zero, suc, ◌+◌, ◌-◌, ◌<◌, Bool, List, [], ◌∷◌, ◌++◌, length, get_or, Option, Some, None, refl, sym, ap, ap₂, subst, ◌∙◌, arith, eq-eqb, ne_eqb}
use Rattle.std.specs.Prelude.{if◌then◌else◌, MatchOption, map, option_map, option_to_list}
use Rattle.std.specs.List.{flat_map}
use mathlib.Core.Logic.{dite}
use native.Mathlib.Decide.{ℕ_discrete}
use Rattle.outside.specs.Counts.{Rose}
use Rattle.cache_core.specs.Histories.{own}
use Rattle.cache_core.specs.Views.{calls_of}
use Rattle.cache_core.specs.declared.calls.Call.{Call}
use Rattle.turn_lock.specs.Histories.{AllMade}
use Rattle.page_index.specs.Pages.{Indexed}
use Rattle.dvi_run.specs.Endings.{IsAmong}
use Rattle.dvi_run.specs.Pages.{Setup}
use Rattle.dvi_run.specs.Reading.{ReadsGave, read_since}
use Rattle.job_spool.specs.Caches.{Drawing, KeepsCache}
use Rattle.job_spool.specs.Jobs.{JobView, WasRead, job_change, job_input}
use Rattle.job_spool.specs.Parts.{Part}
use Rattle.job_spool.specs.Promises.{HasNoDocument, IsDocumentOf}
use Rattle.job_spool.specs.Sharing.{Documents, caches_of, document_at, sharers}
use Rattle.job_spool.specs.declared.job.Job.{Job}
use Rattle.job_spool.proofs.JobsKept.{unread_answers}
use Rattle.job_spool.proofs.SharedPages.{placed_below}

-- ---- without a document

-- a job without a document
pub without : {I O : Type 0} (view : JobView I O) (g : Setup) (a b : Job I O) → WasRead view g None a b → a.history.items ≡ [] → HasNoDocument (job_change view a b)
without view g a b read empty =
    let came = read.came in
    let answers = unread_answers (view.written a.out) (view.written b.out) (Rose (view.writes a.out) (view.writes b.out)) (Unit {0}) (b.out ≡ a.out) (Rose (view.reads a.input) (view.reads b.input)) g (read_since (view.taken a.input) (view.taken b.input)) came.0 came.2.0 came.2.1 in
    record { answers = subst (λ (n : ℕ). IsAmong n (2 ∷ 6 ∷ 9 ∷ [])) (sym came.1) answers; output = read.out; history = ap (λ h. calls_of h.items) read.history ∙ ap calls_of empty }

-- reads gave it, whatever else of the job has changed since
pub gave_then : {I O : Type 0} (view : JobView I O) (a r b : Job I O) (bytes : List ℕ) → b.input ≡ r.input → ReadsGave (job_input view a r) bytes → ReadsGave (job_input view a b) bytes
gave_then view a r b bytes input gave = subst (λ (i : _). ReadsGave (job_input view a (record b { input = i })) bytes) (sym input) gave

-- the document that was found in a job's bytes, or that there is none
pub document_of : {I O : Type 0} (view : JobView I O) (g : Setup) (o : Option Indexed) (a r b : Job I O) → WasRead view g o a r → b.input ≡ r.input → (o ≡ None → b ≡ r) → a.history.items ≡ [] → MatchOption o (HasNoDocument (job_change view a b)) (IsDocumentOf g.res (job_change view a b))
document_of view g None a r b read input same empty = without view g a b (subst (λ (y : Job _ _). WasRead view g None a y) (sym (same refl)) read) empty
document_of view g (Some x) a r b read input same empty =
    (read.came.1, (read.came.3.0, gave_then view a r b read.came.3.0 input read.came.3.1, read.came.3.2))

-- ---- not the first of their cache

no_sharers : (docs : Documents) (first n : ℕ) → ((j : ℕ) → j < n → get_or (caches_of docs) j 0 ≡ first → ⊥) → sharers docs first n ≡ []
no_sharers docs first zero none = refl
no_sharers docs first (suc n) none =
    ap₂ (λ (l : List ℕ) (b : Bool). l ++ option_to_list (option_map (λ (_ : Indexed). n) (if b then document_at docs n else None))) (no_sharers docs first n (λ j lt. none j (omega arith))) (ne_eqb (get_or (caches_of docs) n 0) first (none n (omega arith)))

no_parts : (parts : List Part) → map (λ (p : Part). p.job) parts ≡ [] → parts ≡ []
no_parts [] none = refl
no_parts (p ∷ parts) none = absurd cc

-- a history of seats that made no call
no_calls : (n : ℕ) (history : List Call) → AllMade (n + 1) history → own 0 history ≡ [] → ((seat : ℕ) → seat < n → own (seat + 1) history ≡ []) → history ≡ []
no_calls n [] made first none = refl
no_calls n (c ∷ calls) made first none = dite (ℕ_discrete c.seat 0)
    (λ e. let mine : own 0 (c ∷ calls) ≡ c ∷ own 0 calls = rw (eq-eqb c.seat 0 e) refl in absurd (cc (sym mine ∙ first)))
    (λ not.
    let k = c.seat - 1 in
    let at : c.seat ≡ k + 1 = omega (arith, not) in
    let below : k < n = omega (arith, made.0, not) in
    let mine : own (k + 1) (c ∷ calls) ≡ c ∷ own (k + 1) calls = rw (eq-eqb c.seat (k + 1) at) refl in
    absurd (cc (sym mine ∙ none k below)))

module _ {F : Type 0} (docs : Documents) where
  pub no_history : (drawing : Drawing F) → length docs ≡ drawing.count → (k : ℕ) → (get_or (caches_of docs) k 0 ≡ k → ⊥) → KeepsCache drawing docs k → (drawing.jobs k).history ≡ []
  no_history drawing many k other (inl none) = none.history
  no_history drawing many k other (inr cache) =
      let elsewhere : (j : ℕ) → j < drawing.count → get_or (caches_of docs) j 0 ≡ k → ⊥ = λ j lt is.
      let at = placed_below docs (length docs) j (omega (arith, many, lt)) in
      let same : at.0 ≡ k = sym at.1.is ∙ is in
      other (subst (λ (f : ℕ). get_or (caches_of docs) f 0 ≡ f) same at.1.first) in
      let none = no_parts cache.parts (cache.shared ∙ no_sharers docs k drawing.count elsewhere) in
      no_calls drawing.workers (drawing.jobs k).history cache.one.made cache.one.none_of_first (λ seat lt. cache.one.calls seat lt ∙ ap (λ (ps : List Part). flat_map (λ (p : Part). p.calls seat) ps) none)
