-- Lists of values, and what a run makes of a longer one.
use Rattle.std.proofs.Common.{◌≡◌, ℕ, suc, List, [], ◌∷◌, ◌++◌, length, map, refl, sym, ap, ap₂, ◌∙◌, append-nil, Option, Some, None, Ok, Err}
use Rattle.std.specs.Option.{option_map}
use Rattle.std.specs.List.{flat_map}
use Rattle.page_draw.specs.Values.{PageValue, PlacedFault, DrawnValue}
use Rattle.dvi_run.specs.Pages.{FailingPage, failing_page, first_fault, run_fault, whole_pages, text_of}
use Rattle.dvi_run.specs.Laws.{FaultsEndTheRun, RunsEndAtTheFirstFault, RunsOfGoodPages, good}

-- ---- pages with bitmaps, and what follows them

pub whole_first : (pages : List DrawnValue) (values : List PageValue) → whole_pages (map good pages ++ values) ≡ pages ++ whole_pages values
whole_first [] values = refl
whole_first (page ∷ pages) values = ap (λ (ps : List DrawnValue). page ∷ ps) (whole_first pages values)

fault_after : (pages : List DrawnValue) (values : List PageValue) → first_fault (map good pages ++ values) ≡ first_fault values
fault_after [] values = refl
fault_after (page ∷ pages) values = fault_after pages values

pub whole_all : (pages : List DrawnValue) → whole_pages (map good pages) ≡ pages
whole_all pages = ap whole_pages (sym (append-nil (map good pages))) ∙ (whole_first pages [] ∙ append-nil pages)

abbrev run_end : Option PlacedFault → List DrawnValue → Option FailingPage
run_end fault pages = option_map (failing_page (suc (length pages))) fault

pub runs_end : RunsEndAtTheFirstFault
runs_end pages f rest =
    let whole : whole_pages (map good pages ++ Err f ∷ rest) ≡ pages = whole_first pages (Err f ∷ rest) ∙ append-nil pages in
    (ap (flat_map text_of) whole, ap₂ run_end (fault_after pages (Err f ∷ rest)) whole)

pub runs_of_good_pages : RunsOfGoodPages
runs_of_good_pages pages =
    let none : first_fault (map good pages) ≡ None = ap first_fault (sym (append-nil (map good pages))) ∙ fault_after pages [] in
    (ap (flat_map text_of) (whole_all pages), ap₂ run_end none (whole_all pages))

-- ---- a page that fails ends the run

some_of : (o : Option PlacedFault) (n : ℕ) (page : FailingPage) → option_map (failing_page n) o ≡ Some page → (f : PlacedFault) × (o ≡ Some f)
some_of None n page is = cc
some_of (Some f) n page is = (f, refl)

ends_there : (values rest : List PageValue) (f : PlacedFault) → first_fault values ≡ Some f
    → (first_fault (values ++ rest) ≡ Some f) × (whole_pages (values ++ rest) ≡ whole_pages values)
ends_there [] rest f is = cc
ends_there (Ok page ∷ values) rest f is =
    let later = ends_there values rest f is in
    (later.0, ap (λ (ps : List DrawnValue). page ∷ ps) later.1)
ends_there (Err g ∷ values) rest f is = (is, refl)

pub faults_end_the_run : FaultsEndTheRun
faults_end_the_run values rest page is =
    let f = some_of (first_fault values) (suc (length (whole_pages values))) page is in
    let there = ends_there values rest f.0 f.1 in
    (ap₂ run_end (there.0 ∙ sym f.1) there.1 ∙ is, ap (flat_map text_of) there.1)

-- and no page after it is among those before it
pub none_after_fault : (values rest : List PageValue) (page : FailingPage) → run_fault values ≡ Some page → whole_pages (values ++ rest) ≡ whole_pages values
none_after_fault values rest page is =
    let f = some_of (first_fault values) (suc (length (whole_pages values))) page is in
    (ends_there values rest f.0 f.1).1

-- so where none fails, none of the first ones does
pub prefix_is_good : (values rest : List PageValue) → run_fault (values ++ rest) ≡ None → run_fault values ≡ None
prefix_is_good values rest none = by (run_fault values) refl
  where
    by : (o : Option FailingPage) → run_fault values ≡ o → run_fault values ≡ None
    by None is = is
    by (Some page) is =
        let bad : Some page ≡ None = sym (faults_end_the_run values rest page is).0 ∙ none in
        absurd cc
