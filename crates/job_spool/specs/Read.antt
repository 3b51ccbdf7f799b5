-- Inputs that were read, and documents that were found in them.
use Rattle.std.specs.Prelude.{◌≡◌, ◌⊎◌, ◌≤◌, ℕ, List, Option, Some, None, Vec, option_map, slice_index_or}
use Rattle.outside.specs.Counts.{Rose}
use Rattle.page_index.specs.Document.{IsDocument, pages_begun}
use Rattle.page_index.specs.Limits.{MAX_PAGES}
use Rattle.page_index.specs.Faults.{IsFirstFault}
use Rattle.page_index.specs.Pages.{Indexed}
use Rattle.page_index.specs.declared.faults.DocFault.{DocFault}
use Rattle.dvi_run.specs.Reading.{ReadsGave}
use Rattle.job_spool.specs.Jobs.{JobView, job_input}
use Rattle.job_spool.specs.declared.job.Job.{Job}

-- ---- texts

abbrev pub text_of : {A : Type 0} → Option (Vec ℕ A) → Option (List ℕ)
text_of text = option_map (λ v. v.items) text

abbrev pub text_at : {A : Type 0} → List (Option (Vec ℕ A)) → ℕ → Option (List ℕ)
text_at texts k = text_of (slice_index_or texts k None)

-- what was read of a job's input; else the input failed, or memory was wanting
abbrev pub CameToText : {I O : Type 0} → JobView I O → Option (List ℕ) → (before after : Job I O)
    → Type 0
CameToText view None before after =
    (after.status ≡ 9) ⊎ ((after.status ≡ 6) × Rose (view.reads before.input)
    (view.reads after.input))
CameToText view (Some bytes) before after =
    (after.status ≡ 9) × ReadsGave (job_input view before after) bytes

pub record HasText {I O : Type 0} (view : JobView I O) (text : Option (List ℕ))
    (before after : Job I O) : Type 0 where
  pub out : after.out ≡ before.out
  pub history : after.history ≡ before.history
  pub came : CameToText view text before after

-- ---- documents

-- what was found in a job's text; else the text has a fault, or memory was wanting
abbrev pub IsIndexed : {I O : Type 0} → (res : ℕ) → Option (List ℕ) → Option Indexed
    → (before after : Job I O) → Type 0
IsIndexed res None None before after = after ≡ before
IsIndexed res None (Some x) before after = ⊥
IsIndexed res (Some bytes) None before after =
    (after ≡ before) ⊎ ((after ≡ record before { status = 2 })
    × ((fault : DocFault) × IsFirstFault res bytes fault))
IsIndexed res (Some bytes) (Some x) before after =
    (after ≡ before) × (x.res ≡ res) × (pages_begun x.reading ≤ MAX_PAGES)
    × IsDocument res bytes x.reading
