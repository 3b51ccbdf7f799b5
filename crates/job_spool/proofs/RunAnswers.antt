-- The answer of a run over several documents.
use Rattle.std.proofs.Common.{◌≡◌, ◌⊎◌, inl, inr, ℕ, zero, suc, ◌<◌, Bool, true, false, List, [], ◌∷◌, length, get_or, Option, Some, None, Result, Ok, Err, refl, sym, ◌∙◌, arith}
use Rattle.std.specs.Prelude.{◌==◌, cond, is_ok, not, unwrap_or}
use Rattle.outside.specs.Streams.{Writes}
use Rattle.dvi_run.specs.Outside.{StreamChange}
use Rattle.dvi_run.proofs.EndAfterReport.{line_printed}
use Rattle.job_spool.specs.Notes.{IsAnswer, first_refusal, statuses_of}
use Rattle.job_spool.specs.declared.job.Job.{Job}
use Rattle.job_spool.proofs.JobsKept.{Answers}

module _ {T E : Type 0} (notes : StreamChange) (text : List ℕ) (answer : ℕ) where
  pub is_answer : (refusal : Option ℕ) (r : Result T E) → answer ≡ unwrap_or refusal (cond (is_ok r) 0 8) → Writes notes.before.bytes notes.after.bytes notes.before.faults notes.after.faults text r → IsAnswer refusal notes text answer
  is_answer (Some status) r is w = (is, (line_printed notes.before.bytes notes.after.bytes notes.before.faults notes.after.faults text r w).prints)
  is_answer None (Ok v) is w = inl (is, w.grew)
  is_answer None (Err v) is w = inr (is, w.grew, w.cause.rose refl)

-- ---- it is never that of words that are no line

first_by : (x : ℕ) (xs : List ℕ) (status : ℕ) (b : Bool) → cond b (Some x) (first_refusal xs) ≡ Some status → (x ≡ status) ⊎ (first_refusal xs ≡ Some status)
first_by x xs status true is = inl cc
first_by x xs status false is = inr is

refused_at : (xs : List ℕ) (status : ℕ) → first_refusal xs ≡ Some status → (i : ℕ) × (i < length xs) × (get_or xs i 0 ≡ status)
refused_at [] status is = absurd cc
refused_at (x ∷ xs) status is = elim (first_by x xs status (not (x == 0)) is) [
  | inl here ↦ (0, omega arith, here)
  | inr later ↦ let rest = refused_at xs status later in let lt = rest.1 in (suc rest.0, omega (arith, lt), rest.2)
]

status_at : {I O : Type 0} (jobs : List (Job I O)) (k : ℕ) (r : Job I O) → k < length (statuses_of jobs) → (k < length jobs) × (get_or (statuses_of jobs) k 0 ≡ (get_or jobs k r).status)
status_at [] k r lt = absurd (omega arith)
status_at (x ∷ jobs) zero r lt = (omega arith, refl)
status_at (x ∷ jobs) (suc k) r lt = let rest = status_at jobs k r (omega arith) in let inside = rest.0 in (omega (arith, inside), rest.1)

not_usage_status : (n : ℕ) → Answers n → n ≡ 1 → ⊥
not_usage_status n (inl is) one = let e : 0 ≡ 1 = sym is ∙ one in cc
not_usage_status n (inr (inl is)) one = let e : 2 ≡ 1 = sym is ∙ one in cc
not_usage_status n (inr (inr (inl is))) one = let e : 3 ≡ 1 = sym is ∙ one in cc
not_usage_status n (inr (inr (inr (inl is)))) one = let e : 4 ≡ 1 = sym is ∙ one in cc
not_usage_status n (inr (inr (inr (inr (inl is))))) one = let e : 5 ≡ 1 = sym is ∙ one in cc
not_usage_status n (inr (inr (inr (inr (inr (inl is)))))) one = let e : 6 ≡ 1 = sym is ∙ one in cc
not_usage_status n (inr (inr (inr (inr (inr (inr (inl is))))))) one = let e : 7 ≡ 1 = sym is ∙ one in cc
not_usage_status n (inr (inr (inr (inr (inr (inr (inr (inl is)))))))) one = let e : 9 ≡ 1 = sym is ∙ one in cc
not_usage_status n (inr (inr (inr (inr (inr (inr (inr (inr none)))))))) one = none

first_job : {I O : Type 0} (jobs : List (Job I O)) (k : ℕ) → k < length (statuses_of jobs) → Job I O
first_job [] k lt = absurd (omega arith)
first_job (x ∷ jobs) k lt = x

never : (taken : Bool) (answer : ℕ) → answer ≡ cond taken 0 8 → answer ≡ 1 → ⊥
never true answer is one = let e : 0 ≡ 1 = sym is ∙ one in cc
never false answer is one = let e : 8 ≡ 1 = sym is ∙ one in cc

module _ {I O : Type 0} (jobs : List (Job I O)) (among : (k : ℕ) (d : Job I O) → k < length jobs → Answers (get_or jobs k d).status) where
  refused_status : (status : ℕ) → first_refusal (statuses_of jobs) ≡ Some status → status ≡ 1 → ⊥
  refused_status status is one =
      let at = refused_at (statuses_of jobs) status is in
      let d = first_job jobs at.0 at.1 in
      let here = status_at jobs at.0 d at.1 in
      not_usage_status (get_or jobs at.0 d).status (among at.0 d here.0) (sym here.1 ∙ at.2 ∙ one)

  by_refusal : (o : Option ℕ) (taken : Bool) (answer : ℕ) → first_refusal (statuses_of jobs) ≡ o → answer ≡ unwrap_or o (cond taken 0 8) → answer ≡ 1 → ⊥
  by_refusal (Some status) taken answer is by one = refused_status status is (sym by ∙ one)
  by_refusal None taken answer is by one = never taken answer by one

  pub not_usage : (taken : Bool) (answer : ℕ) → answer ≡ unwrap_or (first_refusal (statuses_of jobs)) (cond taken 0 8) → answer ≡ 1 → ⊥
  not_usage taken answer by one = by_refusal (first_refusal (statuses_of jobs)) taken answer refl by one
