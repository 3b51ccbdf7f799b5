-- Why a job ended so, over the pages of its document.
use Rattle.std.proofs.Common.{◌≡◌, ◌≤◌, inl, inr, ℕ, List, [], ◌∷◌, length, refl, sym, ap, ◌∙◌, Some, None, true, arith}
use Rattle.std.proofs.lemmas.Bool.{cases_lt}
use Rattle.outside.specs.Library.{FileTable}
use Rattle.page_index.specs.Document.{Reading, pages_begun}
use Rattle.vf_expand.specs.Faults.{PageFaultValue, value_of_fault}
use Rattle.page_draw.specs.Values.{PageValue}
use Rattle.page_draw.specs.Laws.{PagesHaveOneValue}
use Rattle.page_workers.specs.declared.worker.Worker.{Worker}
use Rattle.dvi_run.specs.Pages.{AreValues, FailingPage, HaveValues, IsUntolerated, Setup, run_fault}
use Rattle.dvi_run.specs.Endings.{EndingValue, Source, EndsPages, IsAmong, page_status, status_of, value_of_ending, with_notes}
use Rattle.dvi_run.specs.Outside.{FaultsRose, StreamChange}
use Rattle.dvi_run.specs.Rounds.{FailedAt, Site}
use Rattle.dvi_run.specs.Jobs.{JobAnswerIsTrue, SomeSourceFailed}
use Rattle.dvi_run.specs.Together.{SomeUsed}
use Rattle.dvi_run.specs.declared.ending.Ending.{Ending}
use Rattle.dvi_run.specs.declared.ending.Ending.TheVariants as code
use Rattle.dvi_run.proofs.Clauses.{at_page}
use Rattle.dvi_run.proofs.Lacking.{untolerated}
use Rattle.dvi_run.proofs.OneRun.{longer}
use Rattle.dvi_run.proofs.Prefixes.{faults_end_the_run, prefix_is_good}

-- an end that doesn't depend on the notes
pub same_end : (x : Ending) → with_notes (value_of_ending x) true ≡ value_of_ending x
same_end code.Written = refl
same_end code.Usage = refl
same_end (code.Document fault) = refl
same_end (code.Page page fault at) = refl
same_end (code.Source page) = refl
same_end code.Input = refl
same_end (code.Output page) = refl
same_end code.Memory = refl

-- ---- values of the same pages

module _ (one : PagesHaveOneValue) (g : Setup) (r : Reading) (files : FileTable) (known : g.library ≡ Some files) where
  shorter_first : (v w : List PageValue) (p q : FailingPage) → HaveValues g r 0 v → HaveValues g r 0 w → run_fault v ≡ Some p → run_fault w ≡ Some q → length v ≤ length w → p ≡ q
  shorter_first v w p q a b is other le =
      let more = longer one g files known r 0 v w a b le in
      let same : Some p ≡ Some q = sym (faults_end_the_run v more.0 p is).0 ∙ ap run_fault (sym more.1) ∙ other in
      cc

  fail_once : (v w : List PageValue) (p q : FailingPage) → HaveValues g r 0 v → HaveValues g r 0 w → run_fault v ≡ Some p → run_fault w ≡ Some q → p ≡ q
  fail_once v w p q a b is other = elim (cases_lt (length v) (length w)) [
    | inl shorter ↦ shorter_first v w p q a b is other (omega (arith, shorter))
    | inr longer ↦ sym (shorter_first w v q p b a other is longer)
  ]

  -- where all pages have bitmaps, the first ones do
  first_good : (v w : List PageValue) → AreValues g r v → length v ≡ pages_begun r → run_fault v ≡ None → AreValues g r w → run_fault w ≡ None
  first_good v w a all good b =
      let few = b.few in
      let more = longer one g files known r 0 w v b.are a.are (omega (arith, few, all)) in
      prefix_is_good w more.0 (ap run_fault (sym more.1) ∙ good)

no_page : (n : ℕ) → (n ≡ 3 → ⊥) → (n ≡ 4 → ⊥) → IsAmong n (3 ∷ 4 ∷ []) → ⊥
no_page n not_three not_four (inl is) = not_three is
no_page n not_three not_four (inr (inl is)) = not_four is
no_page n not_three not_four (inr (inr none)) = none

-- a page's status is no other
no_other : (f : PageFaultValue) (n : ℕ) → page_status f ≡ n → (n ≡ 3 → ⊥) → (n ≡ 4 → ⊥) → ⊥
no_other f n is not_three not_four = elim (at_page f) [ inl three ↦ not_three (sym is ∙ three) | inr four ↦ not_four (sym is ∙ four) ]

-- ---- by the end

module _ {F : Type 0} (s : Site F) (output : StreamChange) (before after : List (Worker F)) where
  abbrev Ends : EndingValue → Type 0
  Ends e = (values : List PageValue) × AreValues s.given s.reading values × EndsPages output.before.bytes output.after.bytes (FaultsRose output) (Unit {0}) e s.reading values

  abbrev Failed : EndingValue → Type 0
  Failed e = (page : ℕ) → e ≡ Source page → SomeUsed (length before) before after (FailedAt s.faults page)

  answers_of : (x : Ending) → Ends (value_of_ending x) → IsAmong (status_of (value_of_ending x)) (0 ∷ 3 ∷ 4 ∷ 5 ∷ 7 ∷ 9 ∷ [])
  answers_of code.Written h = inl refl
  answers_of code.Usage h = absurd h.2
  answers_of (code.Document fault) h = absurd h.2
  answers_of (code.Page page fault at) h = elim (at_page (value_of_fault fault)) [ inl three ↦ inr (inl three) | inr four ↦ inr (inr (inl four)) ]
  answers_of (code.Source page) h = inr (inr (inr (inl refl)))
  answers_of code.Input h = absurd h.2
  answers_of (code.Output page) h = inr (inr (inr (inr (inl refl))))
  answers_of code.Memory h = inr (inr (inr (inr (inr (inl refl)))))

  abbrev HasPage : ℕ → Type 0
  HasPage status = (values : List PageValue) × (page : FailingPage) × AreValues s.given s.reading values × (run_fault values ≡ Some page) × (status ≡ page_status page.fault)
      × IsUntolerated s.given page

  page_of : (x : Ending) → Ends (value_of_ending x) → IsAmong (status_of (value_of_ending x)) (3 ∷ 4 ∷ []) → HasPage (status_of (value_of_ending x))
  page_of code.Written h is = absurd (no_page 0 (λ e. omega (arith, e)) (λ e. omega (arith, e)) is)
  page_of code.Usage h is = absurd h.2
  page_of (code.Document fault) h is = absurd h.2
  page_of (code.Page page fault at) h is = (h.0, _, h.1, h.2.fails, refl, untolerated s.given s.reading h.0 _ h.1.are h.2.fails)
  page_of (code.Source page) h is = absurd (no_page 5 (λ e. omega (arith, e)) (λ e. omega (arith, e)) is)
  page_of code.Input h is = absurd h.2
  page_of (code.Output page) h is = absurd (no_page 7 (λ e. omega (arith, e)) (λ e. omega (arith, e)) is)
  page_of code.Memory h is = absurd (no_page 9 (λ e. omega (arith, e)) (λ e. omega (arith, e)) is)

  source_of : (x : Ending) → Failed (value_of_ending x) → status_of (value_of_ending x) ≡ 5 → SomeSourceFailed s output before after
  source_of code.Written f is = absurd (omega (arith, is))
  source_of code.Usage f is = absurd (omega (arith, is))
  source_of (code.Document fault) f is = absurd (omega (arith, is))
  source_of (code.Page page fault at) f is = absurd (no_other (value_of_fault fault) 5 is (λ e. omega (arith, e)) (λ e. omega (arith, e)))
  source_of (code.Source page) f is = let one = f page refl in (one.0, one.1, λ d. (one.2 d).rose)
  source_of code.Input f is = absurd (omega (arith, is))
  source_of (code.Output page) f is = absurd (omega (arith, is))
  source_of code.Memory f is = absurd (omega (arith, is))

  output_of : (x : Ending) → Ends (value_of_ending x) → status_of (value_of_ending x) ≡ 7 → FaultsRose output
  output_of code.Written h is = absurd (omega (arith, is))
  output_of code.Usage h is = absurd h.2
  output_of (code.Document fault) h is = absurd h.2
  output_of (code.Page page fault at) h is = absurd (no_other (value_of_fault fault) 7 is (λ e. omega (arith, e)) (λ e. omega (arith, e)))
  output_of (code.Source page) h is = absurd (omega (arith, is))
  output_of code.Input h is = absurd h.2
  output_of (code.Output page) h is = h.2.1
  output_of code.Memory h is = absurd (omega (arith, is))

  module _ (one : PagesHaveOneValue) (files : FileTable) (known : s.given.library ≡ Some files) where
    stopped_of : (x : Ending) → Ends (value_of_ending x) → (values : List PageValue) (page : FailingPage) → AreValues s.given s.reading values → run_fault values ≡ Some page
        → IsAmong (status_of (value_of_ending x)) (page_status page.fault ∷ 5 ∷ 7 ∷ 9 ∷ [])
    stopped_of code.Written h values page are is =
        let none = first_good one s.given s.reading files known h.0 values h.1 h.2.all h.2.good are in
        let bad : Some page ≡ None = sym is ∙ none in
        absurd cc
    stopped_of code.Usage h values page are is = absurd h.2
    stopped_of (code.Document fault) h values page are is = absurd h.2
    stopped_of (code.Page number fault at) h values page are is =
        inl (ap (λ (p : FailingPage). page_status p.fault) (fail_once one s.given s.reading files known h.0 values _ page h.1.are are.are h.2.fails is))
    stopped_of (code.Source number) h values page are is = inr (inl refl)
    stopped_of code.Input h values page are is = absurd h.2
    stopped_of (code.Output number) h values page are is = inr (inr (inl refl))
    stopped_of code.Memory h values page are is = inr (inr (inr (inl refl)))

    complete_of : (x : Ending) → Ends (value_of_ending x) → Failed (value_of_ending x) → (SomeSourceFailed s output before after → ⊥) → (FaultsRose output → ⊥)
        → (values : List PageValue) → AreValues s.given s.reading values → length values ≡ pages_begun s.reading → run_fault values ≡ None → IsAmong (status_of (value_of_ending x)) (0 ∷ 9 ∷ [])
    complete_of code.Written h f source out values are all good = inl refl
    complete_of code.Usage h f source out values are all good = absurd h.2
    complete_of (code.Document fault) h f source out values are all good = absurd h.2
    complete_of (code.Page number fault at) h f source out values are all good =
        let none = first_good one s.given s.reading files known values h.0 are all good h.1 in
        let bad = sym h.2.fails ∙ none in
        absurd cc
    complete_of (code.Source number) h f source out values are all good = absurd (source (source_of (code.Source number) f refl))
    complete_of code.Input h f source out values are all good = absurd h.2
    complete_of (code.Output number) h f source out values are all good = absurd (out h.2.1)
    complete_of code.Memory h f source out values are all good = inr (inl refl)

  pub answer_is_true : PagesHaveOneValue → (x : Ending) → Ends (value_of_ending x) → Failed (value_of_ending x) → JobAnswerIsTrue s output before after (status_of (value_of_ending x))
  answer_is_true one x h f = record {
    answers = answers_of x h;
    page = page_of x h;
    stopped = λ files known. stopped_of one files known x h;
    source = source_of x f;
    output = output_of x h;
    complete = λ files known source out. complete_of one files known x h f source out;
  }
