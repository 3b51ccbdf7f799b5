-- What pages lack on tolerant sheets and on others.
use Rattle.std.proofs.Common.{◌≡◌, ℕ, zero, suc, Bool, true, false, List, [], ◌∷◌, length, take, refl, ap, subst, Option, Some, None, Ok, Err}
use Rattle.std.specs.Prelude.{IsFalse}
use Rattle.std.specs.Option.{option_map}
use Rattle.std.proofs.lemmas.List.{length-take-le}
use Rattle.outside.specs.declared.keys.FontKey.{FontKey}
use Rattle.cache_core.specs.declared.calls.Call.{Call}
use Rattle.page_index.specs.Document.{Reading}
use Rattle.page_index.specs.Pages.{document_units}
use Rattle.font_decode.specs.Decoding.{IsFontOf}
use Rattle.vf_expand.specs.Faults.{is_lack}
use Rattle.page_draw.specs.Drawn.{IsPageValue}
use Rattle.page_draw.specs.Tolerance.{IsValueWhere}
use Rattle.page_draw.specs.Values.{DrawnValue, PageValue, PlacedFault}
use Rattle.page_draw.specs.declared.sheet.Sheet.{Sheet}
use Rattle.page_draw.proofs.Tolerance.{lacks_end_no_tolerant_page, pages_lack_what_is_missing}
use Rattle.dvi_run.specs.Endings.{EndingValue}
use Rattle.dvi_run.specs.Noted.{LackNothing, whole_count}
use Rattle.dvi_run.specs.Pages.{FailingPage, HaveValues, IsUntolerated, IsValueOf, Setup, failing_page, first_fault, run_fault, whole_pages}
use Rattle.dvi_run.specs.Rounds.{indexed_of}
use Rattle.dvi_run.specs.Tally.{TallyMatchesRun}
use Rattle.dvi_run.specs.declared.tally.Tally.{Tally}

module _ (g : Setup) (r : Reading) where
  -- a page's value, by whether its sheet is tolerant
  value_where : (tolerant : Bool) (i : ℕ) (value : PageValue) (looks : List FontKey) → g.sheet.tolerant ≡ tolerant → IsPageValue (IsFontOf g.library (document_units g.res r)) (indexed_of g r) g.sheet i value looks
      → IsValueWhere tolerant g.library (document_units g.res r) (indexed_of g r) g.sheet i value looks
  value_where tolerant i value looks is v =
      let same : g.sheet ≡ record g.sheet { tolerant = tolerant } = ap (λ (b : Bool). record g.sheet { tolerant = b }) is in
      subst (λ (sheet : Sheet). IsPageValue (IsFontOf g.library (document_units g.res r)) (indexed_of g r) sheet i value looks) same v

  -- pages on a sheet that isn't tolerant lack nothing
  pub whole_strictly : (i : ℕ) (values : List PageValue) → g.sheet.tolerant ≡ false → HaveValues g r i values → LackNothing (whole_pages values)
  whole_strictly i [] strict have = tt
  whole_strictly i (Ok page ∷ values) strict have = (
    (pages_lack_what_is_missing g.library (document_units g.res r) (indexed_of g r) g.sheet i page have.0.0).1 (value_where false i (Ok page) have.0.0 strict have.0.1),
    whole_strictly (suc i) values strict have.1,
  )
  whole_strictly i (Err f ∷ values) strict have = tt

  -- and no lack ends a page on a tolerant one
  fault_there : (i : ℕ) (values : List PageValue) (f : PlacedFault) → HaveValues g r i values → first_fault values ≡ Some f → (k : ℕ) × IsValueOf g r k (Err f)
  fault_there i [] f have is = cc
  fault_there i (Ok page ∷ values) f have is = fault_there (suc i) values f have.1 is
  fault_there i (Err e ∷ values) f have is =
      let same : e ≡ f = cc in
      (i, subst (λ (x : PlacedFault). IsValueOf g r i (Err x)) same have.0)

  pub untolerated : (values : List PageValue) (page : FailingPage) → HaveValues g r 0 values → run_fault values ≡ Some page → IsUntolerated g page
  untolerated values page have is = by (first_fault values) refl is
    where
      by : (o : Option PlacedFault) → first_fault values ≡ o → option_map (failing_page (suc (length (whole_pages values)))) o ≡ Some page → IsUntolerated g page
      by None e named = absurd cc
      by (Some f) e named =
          let same : failing_page (suc (length (whole_pages values))) f ≡ page = cc in
          let there = fault_there 0 values f have e in
          λ tolerant.
          subst (λ (p : FailingPage). IsFalse (is_lack p.fault)) same
          (lacks_end_no_tolerant_page g.library (document_units g.res r) (indexed_of g r) g.sheet there.0 f there.1.0 (value_where true there.0 (Err f) there.1.0 tolerant there.1.1))

-- the first of pages that lack nothing
pub first_strictly : (n : ℕ) (pages : List DrawnValue) → LackNothing pages → LackNothing (take n pages)
first_strictly zero pages none = tt
first_strictly (suc n) [] none = tt
first_strictly (suc n) (page ∷ pages) none = (none.0, first_strictly n pages none.1)

-- ---- the pages that a tally counts

-- those of some values, of which `Are` holds
pub record AreCounted (counted : Bool) (Are : List DrawnValue → Type 0) (old new : Option (List ℕ)) (history : List Call) (tally : Option Tally) (e : EndingValue) (values : List PageValue) : Type 0 where
  pub whole : List DrawnValue
  pub count : length whole ≡ whole_count tally
  pub first : whole ≡ take (whole_count tally) (whole_pages values)
  pub are : Are whole
  pub tallied : TallyMatchesRun counted (λ pages. whole ≡ pages) old new history tally e values

pub are_counted : (counted : Bool) (Are : List DrawnValue → Type 0) (old new : Option (List ℕ)) (history : List Call) (tally : Option Tally) (e : EndingValue) (values : List PageValue) → TallyMatchesRun counted Are old new history tally e values
    → AreCounted counted Are old new history tally e values
are_counted counted Are old new history None e values h = record { whole = []; count = refl; first = refl; are = h.3; tallied = (h.0, h.1, h.2, refl) }
are_counted counted Are old new history (Some t) e values h = record {
  whole = take t.pages (whole_pages values);
  count = length-take-le t.pages (whole_pages values) h.few;
  first = refl;
  are = h.are;
  tallied = record { few = h.few; black = h.black; next = h.next; written = h.written; are = refl };
}
