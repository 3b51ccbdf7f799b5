-- The pages of a document that were written so far.
use Rattle.std.proofs.Common.{◌≡◌, ℕ, suc, ◌+◌, ◌<◌, ◌≤◌, Bool, true, List, [], ◌∷◌, ◌++◌, length, take, map, refl, sym, ap, subst, ◌∙◌, arith, append-nil, Option, Some, Ok, Err}
use Rattle.std.specs.List.{flat_map, sum_by}
use Rattle.std.specs.Io.KnownBytes.{Appends}
use Rattle.std.proofs.lemmas.Grind.{flat_map-append}
use Rattle.std.proofs.lemmas.List.{length-append, length-map, map-append, take_all, take_at}
use Rattle.std.proofs.lemmas.List.Sums.{sum_by_push}
use Rattle.outside.specs.Streams.{AppendsPrefix}
use Rattle.outside.proofs.Growth.{grown_none, grown_twice}
use Rattle.page_index.specs.Document.{Reading, pages_begun}
use Rattle.vf_expand.specs.Faults.{value_of_fault}
use Rattle.page_draw.specs.Values.{PageValue, PlacedFault, DrawnValue}
use Rattle.page_draw.specs.declared.stop.PageStop.TheVariants as draw
use Rattle.dvi_run.specs.Pages.{AreValues, Setup, HaveValues, IsValueOf, failing_page, run_text, whole_pages, text_of, black_in}
use Rattle.dvi_run.specs.Laws.{good}
use Rattle.dvi_run.specs.Endings.{EndingValue, EndsPages, IsWriteStop, Stopped, Wrote, WroteBefore, Written, WrotePrefix, WroteSome, ending_at}
use Rattle.dvi_run.specs.Rounds.{black_of}
use Rattle.dvi_run.specs.Tally.{AreWritten, IsAfter, TallyMatches}
use Rattle.dvi_run.specs.declared.pages.WriteStop.{WriteStop}
use Rattle.dvi_run.specs.declared.pages.WriteStop.TheVariants as stop
use Rattle.dvi_run.proofs.Prefixes.{runs_end, runs_of_good_pages, whole_all, whole_first}

-- ---- one value more

values_more : (g : Setup) (r : Reading) (i n : ℕ) (values : List PageValue) (v : PageValue) → HaveValues g r i values → n ≡ i + length values → IsValueOf g r n v
    → HaveValues g r i (values ++ v ∷ [])
values_more g r i n [] v have is value =
    let here : n ≡ i = omega (arith, is) in
    (subst (λ (k : ℕ). IsValueOf g r k v) here value, tt)
values_more g r i n (w ∷ values) v have is value =
    let next : n ≡ suc i + length values = omega (arith, is) in
    (have.0, values_more g r (suc i) n values v have.1 next value)

-- the pages before the one with a number, from 0, have bitmaps, and they were written; with their
-- black dots, where they are counted; and `Are` holds of them
pub record IsWrittenTo (g : Setup) (r : Reading) (old now : Option (List ℕ)) (i : ℕ) (counted : Bool) (black : ℕ) (Are : List DrawnValue → Type 0) : Type 0 where
  pub pages : List DrawnValue
  pub count : length pages ≡ i
  pub values : HaveValues g r 0 (map good pages)
  pub grew : Appends old now (flat_map text_of pages)
  pub dots : counted ≡ true → black ≡ sum_by black_in pages
  pub are : Are pages

unfoldable pub written_none : (g : Setup) (r : Reading) (old : Option (List ℕ)) (counted : Bool) (Are : List DrawnValue → Type 0) → Are [] → IsWrittenTo g r old old 0 counted 0 Are
written_none g r old counted Are are = record { pages = []; count = refl; values = tt; grew = grown_none old; dots = λ is. refl; are = are }

-- something else holds of them
pub written_so : (g : Setup) (r : Reading) (old now : Option (List ℕ)) (i : ℕ) (counted : Bool) (black : ℕ) (P Q : List DrawnValue → Type 0) (w : IsWrittenTo g r old now i counted black P) → Q w.pages → IsWrittenTo g r old now i counted black Q
written_so g r old now i counted black P Q w are = record { pages = w.pages; count = w.count; values = w.values; grew = w.grew; dots = w.dots; are = are }

-- where they are counted
pub all_black : (counted : Bool) (page : DrawnValue) → counted ≡ true → black_of counted page ≡ black_in page
all_black counted page is = ap (λ (b : Bool). black_of b page) is

module _ (g : Setup) (r : Reading) (old now : Option (List ℕ)) (i : ℕ) (counted : Bool) (black : ℕ) (Are : List DrawnValue → Type 0) (w : IsWrittenTo g r old now i counted black Are) where
  pub size : length (map good w.pages) ≡ i
  size = length-map w.pages good ∙ w.count

  pub one_more : (v : PageValue) → IsValueOf g r i v → HaveValues g r 0 (map good w.pages ++ v ∷ [])
  one_more v value = let size = size in values_more g r 0 i (map good w.pages) v w.values (omega (arith, size)) value

  pub texts : (page : DrawnValue) → flat_map text_of w.pages ++ text_of page ≡ flat_map text_of (w.pages ++ page ∷ [])
  texts page = ap (λ (t : List ℕ). flat_map text_of w.pages ++ t) (sym (append-nil (text_of page))) ∙ sym (flat_map-append text_of w.pages (page ∷ []))

  unfoldable pub written_more : (new : Option (List ℕ)) (page : DrawnValue) → IsValueOf g r i (Ok page) → Appends now new (text_of page)
      → (Next : List DrawnValue → Type 0) → Next (w.pages ++ page ∷ []) → IsWrittenTo g r old new (suc i) counted (black + black_of counted page) Next
  written_more new page value more Next are = record {
    pages = w.pages ++ page ∷ [];
    count = let count = w.count in let size = length-append w.pages (page ∷ []) in omega (arith, count, size);
    values = subst (HaveValues g r 0) (sym (map-append good w.pages (page ∷ []))) (one_more (Ok page) value);
    grew = subst (Appends old new) (texts page) (grown_twice old now new (flat_map text_of w.pages) (text_of page) w.grew more);
    dots = λ is.
        let so_far = w.dots is in
        let here = all_black counted page is in
        let all = sum_by_push black_in w.pages page in
        omega (arith, so_far, here, all);
    are = are;
  }

  -- the values of the pages that were written, and of one more
  before : i ≤ pages_begun r → AreValues g r (map good w.pages)
  before few = record { few = let size = size in omega (arith, size, few); are = w.values }

  and_one : (v : PageValue) → i < pages_begun r → IsValueOf g r i v → AreValues g r (map good w.pages ++ v ∷ [])
  and_one v below value = record {
    few = let size = size in let more = length-append (map good w.pages) (v ∷ []) in omega (arith, size, more, below);
    are = one_more v value;
  }

  text_is : run_text (map good w.pages) ≡ flat_map text_of w.pages
  text_is = (runs_of_good_pages w.pages).0

  grew_so : Appends old now (run_text (map good w.pages))
  grew_so = subst (Appends old now) (sym text_is) w.grew

  -- ---- the tally

  -- among values whose bitmaps begin with these pages
  first_pages : (values : List PageValue) (rest : List DrawnValue) → whole_pages values ≡ w.pages ++ rest → take i (whole_pages values) ≡ w.pages
  first_pages values rest is = ap (take i) is ∙ take_at w.pages rest i w.count

  tally_of : (noted : Bool) (new : Option (List ℕ)) (e : EndingValue) (values : List PageValue) (rest : List DrawnValue) → whole_pages values ≡ w.pages ++ rest → IsAfter i e → AreWritten old new i e values
      → TallyMatches counted Are old new (record { pages = i; black = black; noted = noted }) e values
  tally_of noted new e values rest is next written = record {
    few = let size = ap length is in let more = length-append w.pages rest in let count = w.count in omega (arith, size, more, count);
    black = λ asked. w.dots asked ∙ ap (sum_by black_in) (sym (first_pages values rest is));
    next = next;
    written = written;
    are = subst Are (sym (first_pages values rest is)) w.are;
  }

  none_more : whole_pages (map good w.pages) ≡ w.pages ++ []
  none_more = whole_all w.pages ∙ sym (append-nil w.pages)

  -- how it ends, with the values that say so
  abbrev Ends : (noted : Bool) (OutputFailed SourceFailed : Type 0) → Option (List ℕ) → EndingValue → Type 0
  Ends noted OutputFailed SourceFailed new e = (values : List PageValue) × AreValues g r values × EndsPages old new OutputFailed SourceFailed e r values
      × TallyMatches counted Are old new (record { pages = i; black = black; noted = noted }) e values

  -- with all pages
  pub ends_written : (noted : Bool) → i ≡ pages_begun r
      → AreValues g r (map good w.pages) × Wrote old now r (map good w.pages) × TallyMatches counted Are old now (record { pages = i; black = black; noted = noted }) Written (map good w.pages)
  ends_written noted all = (
    before (omega (arith, all)),
    record { all = size ∙ all; good = (runs_of_good_pages w.pages).1; grew = grew_so },
    tally_of noted now Written (map good w.pages) [] none_more tt (sym (ap length (whole_all w.pages) ∙ w.count)),
  )

  -- the values of those that were written and of one more
  abbrev pub with_one : PageValue → List PageValue
  with_one v = map good w.pages ++ v ∷ []

  module _ (new : Option (List ℕ)) (page : ℕ) (number : page ≡ suc i) (below : i < pages_begun r) where
    pub stops : (f : PlacedFault) → IsValueOf g r i (Err f) → new ≡ now → AreValues g r (with_one (Err f)) × Stopped old new (failing_page page f) (with_one (Err f))
    stops f value same =
        let runs = runs_end w.pages f [] in
        let numbered : suc (length w.pages) ≡ page = ap suc w.count ∙ sym number in (
          and_one (Err f) below value,
          record {
            fails = runs.1 ∙ ap (λ (k : ℕ). Some (failing_page k f)) numbered;
            grew = subst (λ (o : Option (List ℕ)). Appends old o (run_text (with_one (Err f)))) (sym same) (subst (Appends old now) (sym runs.0) w.grew);
          },
        )

    pub breaks : new ≡ now → AreValues g r (map good w.pages) × WroteBefore old new page r (map good w.pages)
    breaks same = (
      before (omega (arith, below)),
      record {
        there = omega (arith, number, below);
        number = number ∙ ap suc (sym size);
        good = (runs_of_good_pages w.pages).1;
        grew = subst (λ (o : Option (List ℕ)). Appends old o (run_text (map good w.pages))) (sym same) grew_so;
      },
    )

    pub fails : (own : DrawnValue) → IsValueOf g r i (Ok own) → AppendsPrefix now new (text_of own) → AreValues g r (with_one (Ok own)) × WrotePrefix old new page (with_one (Ok own))
    fails own value prefix = (
      and_one (Ok own) below value,
      record {
        before = w.pages;
        own = own;
        rest = [];
        pages = ap whole_pages (sym (map-append good w.pages (own ∷ []))) ∙ whole_all (w.pages ++ own ∷ []);
        number = number ∙ ap suc (sym w.count);
        size = prefix.0;
        within = prefix.1;
        grew = grown_twice old now new (flat_map text_of w.pages) (take prefix.0 (text_of own)) w.grew prefix.2;
      },
    )

    pub wants : new ≡ now → AreValues g r (map good w.pages) × WroteSome old new (map good w.pages)
    wants same =
        let whole : take (length w.pages) (whole_pages (map good w.pages)) ≡ w.pages = ap (take (length w.pages)) (whole_all w.pages) ∙ take_all (length w.pages) w.pages (omega arith) in (
          before (omega (arith, below)),
          record {
            count = length w.pages;
            grew = subst (λ (o : Option (List ℕ)). Appends old o (flat_map text_of (take (length w.pages) (whole_pages (map good w.pages))))) (sym same)
                (subst (λ (ps : List DrawnValue). Appends old now (flat_map text_of ps)) (sym whole) w.grew);
          },
        )

    -- at a page that can't be written
    pub ends_at : (noted : Bool) (OutputFails SourceFails OutputFailed SourceFailed : Type 0) → (OutputFails → OutputFailed) → (SourceFails → SourceFailed) → (s : WriteStop)
        → IsWriteStop now new OutputFails SourceFails (IsValueOf g r i) (Unit {0}) s → Ends noted OutputFailed SourceFailed new (ending_at page s)
    ends_at noted P Q P' Q' o s (stop.Draw (draw.Fault fault at)) h =
        let f : PlacedFault = record { fault = value_of_fault fault; at = at } in
        let e = stops f h.0 h.1 in (with_one (Err f), e.0, e.1, tally_of noted new _ (with_one (Err f)) [] (whole_first w.pages (Err f ∷ [])) number tt)
    ends_at noted P Q P' Q' o s (stop.Draw draw.SourceFault) h =
        let b = breaks h.2 in (map good w.pages, b.0, (b.1, s h.0), tally_of noted new _ (map good w.pages) [] none_more number tt)
    ends_at noted P Q P' Q' o s (stop.Draw draw.NoMemory) h =
        let e = wants h.1 in
        let same = first_pages (map good w.pages) [] none_more in
        let grew = subst (λ (l : Option (List ℕ)). Appends old l (flat_map text_of (take i (whole_pages (map good w.pages))))) (sym h.1)
        (subst (λ (ps : List DrawnValue). Appends old now (flat_map text_of ps)) (sym same) w.grew) in
        (map good w.pages, e.0, e.1, tally_of noted new _ (map good w.pages) [] none_more tt grew)
    ends_at noted P Q P' Q' o s stop.Output h =
        let f = fails h.0 h.1 h.2 in
        (with_one (Ok h.0), f.0, (f.1, o h.3), tally_of noted new _ (with_one (Ok h.0)) (h.0 ∷ []) (whole_first w.pages (Ok h.0 ∷ [])) number tt)
