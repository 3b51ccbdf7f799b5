-- The results of a round at hand, and how they are written.
use Rattle.std.proofs.Common.{◌≡◌, inl, inr, ℕ, suc, ◌+◌, ◌*◌, ◌<◌, ◌≤◌, Bool, List, [], ◌∷◌, ◌++◌, length, get_or, All, Contains, Option, Result, Ok, Err, IfOk, IsOk, IsErrOf, refl, sym, ap, subst, ◌∙◌, add-one, append-nil, append_assoc, arith}
use Rattle.std.proofs.lemmas.List.{length-append}
use Rattle.std.proofs.lemmas.List.Elements.{Contains-get_or, Contains-append_cases}
use Rattle.page_index.specs.Document.{Reading, pages_begun}
use Rattle.page_draw.specs.Drawn.{IsWhole}
use Rattle.page_draw.specs.Sheets.{IsDrawable}
use Rattle.page_draw.specs.Values.{DrawnValue, PageValue, value_of_drawn}
use Rattle.page_draw.specs.declared.stop.PageStop.{PageStop}
use Rattle.page_draw.specs.declared.stop.PageStop.TheVariants as draw
use Rattle.page_draw.specs.declared.drawn.Drawn.{Drawn}
use Rattle.page_workers.specs.Rounds.{HasBitmap}
use Rattle.page_workers.specs.declared.worker.PageResult.{PageResult}
use Rattle.dvi_run.specs.Pages.{AreValues, Setup, black_in}
use Rattle.dvi_run.specs.Endings.{EndsPages, Source, ending_at}
use Rattle.dvi_run.specs.Looked.{WasNotCutOff, sure_pages}
use Rattle.dvi_run.specs.Pressing.{drawn_in}
use Rattle.dvi_run.specs.Rounds.{IsOutcomeOf, WroteOutcome}
use Rattle.dvi_run.specs.Stacks.{HasFewDots, WroteEach, WroteUpTo, WroteWhole}
use Rattle.dvi_run.specs.Tally.{TallyMatches}
use Rattle.dvi_run.specs.declared.tally.Tally.{Tally}
use Rattle.dvi_run.specs.declared.pages.WriteStop.{WriteStop}
use Rattle.dvi_run.proofs.Dots.{few_on_sheet}
use Rattle.dvi_run.proofs.PagesDrawn.{AreWhole, CutAmong, bitmap_whole, cons_cases, few_sure, only, source_failed, sure_where_cut, whole_outcome, why_stops, wrote_it}
use Rattle.dvi_run.proofs.PagesWritten.{IsWrittenTo, ends_at, written_more, written_so}

-- ---- lists

all_of : {A : Type 0} (P : A → Type 0) (xs : List A) → ((x : A) → Contains xs x → P x) → All P xs
all_of P xs each k d lt = each (get_or xs k d) (Contains-get_or xs k d lt)

is_empty : {A : Type 0} (xs : List A) → length xs ≡ 0 → xs ≡ []
is_empty [] e = refl
is_empty (x ∷ xs) e = absurd (omega arith)

-- ---- results by the pages of their document

module _ (g : Setup) (reading : Reading) (SomeFailed : ℕ → Type 0) where
  -- this is the result of the page with this number, from 0; where a source failed it failed at
  -- this page, from 1
  pub record IsHeld (page : ℕ) (r : PageResult) : Type 0 where
    pub number : r.page ≡ page
    pub value : IsOutcomeOf g reading page r.outcome
    pub failed : IsErrOf r.outcome draw.SourceFault → SomeFailed (page + 1)

  abbrev pub AreHeld : ℕ → List PageResult → Type 0
  AreHeld page [] = Unit {0}
  AreHeld page (r ∷ results) = IsHeld page r × AreHeld (suc page) results

  held_first : (page : ℕ) (xs ys : List PageResult) → AreHeld page (xs ++ ys) → AreHeld page xs
  held_first page [] ys h = tt
  held_first page (r ∷ xs) ys h = (h.0, held_first (suc page) xs ys h.1)

  held_at : (page : ℕ) (xs : List PageResult) (r : PageResult) (ys : List PageResult) → AreHeld page (xs ++ r ∷ ys) → IsHeld (page + length xs) r
  held_at page [] r ys h = let same : page ≡ page + 0 = omega arith in subst (λ (p : ℕ). IsHeld p r) same h.0
  held_at page (q ∷ xs) r ys h = let same : suc page + length xs ≡ page + length (q ∷ xs) = omega arith in subst (λ (p : ℕ). IsHeld p r) same (held_at (suc page) xs r ys h.1)

  -- each of them by its place
  pub held_in : (page : ℕ) (rs : List PageResult) → AreHeld page rs → (r : PageResult) → Contains rs r → (page ≤ r.page) × (r.page < page + length rs)
  held_in page [] h r has = let less : has.0 < 0 = has.1 in absurd (omega arith)
  held_in page (q ∷ rs) h r has = elim (cons_cases q rs r has) [
    | inl same ↦ let number : r.page ≡ page = subst (λ (x : PageResult). x.page ≡ page) same h.0.number in (omega (arith, number), omega (arith, number))
    | inr rest ↦ let there = held_in (suc page) rs h.1 r rest in (omega (arith, there.0), omega (arith, there.1))
  ]

  held_last : (page : ℕ) (xs ys : List PageResult) → AreHeld page (xs ++ ys) → AreHeld (page + length xs) ys
  held_last page [] ys h = let same : page ≡ page + 0 = omega arith in subst (λ (p : ℕ). AreHeld p ys) same h
  held_last page (q ∷ xs) ys h = let same : suc page + length xs ≡ page + length (q ∷ xs) = omega arith in subst (λ (p : ℕ). AreHeld p ys) same (held_last (suc page) xs ys h.1)

  few_of : (page : ℕ) (outcome : Result Drawn PageStop) → IsDrawable g.sheet → IsOutcomeOf g reading page outcome → IfOk outcome (λ b. black_in (value_of_drawn b) ≤ 20000 * 20000)
  few_of page (Ok b) sheet value = few_on_sheet g reading page (value_of_drawn b) sheet value
  few_of page (Err why) sheet value = tt

  few_held : (page : ℕ) (rs : List PageResult) → IsDrawable g.sheet → AreHeld page rs → (r : PageResult) → Contains rs r → HasFewDots r
  few_held page [] sheet h r has = let less : has.0 < 0 = has.1 in absurd (omega arith)
  few_held page (q ∷ rs) sheet h r has = elim (cons_cases q rs r has) [
    | inl same ↦ subst HasFewDots same (few_of page q.outcome sheet h.0.value)
    | inr rest ↦ few_held (suc page) rs sheet h.1 r rest
  ]

  -- no page has too many
  pub few_at_hand : (page : ℕ) (rs : List PageResult) → IsDrawable g.sheet → AreHeld page rs → All HasFewDots rs
  few_at_hand page rs sheet h = all_of HasFewDots rs (few_held page rs sheet h)

  -- ---- pages that were written

  module _ (old : Option (List ℕ)) (counted : Bool) where
    abbrev To : Option (List ℕ) → ℕ → ℕ → (List DrawnValue → Type 0) → Type 0
    To now done black Are = IsWrittenTo g reading old now done counted black Are

    good_one : (now new : Option (List ℕ)) (P : Type 0) (outcome : Result Drawn PageStop) (more : ℕ) → WroteOutcome counted now new P outcome (Ok more) → IsOk outcome
    good_one now new P (Ok page) more wrote = refl
    good_one now new P (Err reason) more wrote = absurd wrote

    to_as : (now new : Option (List ℕ)) (done m black b : ℕ) (Are : List DrawnValue → Type 0) → new ≡ now → m ≡ done → b ≡ black → To now done black Are → To new m b Are
    to_as now new done m black b Are same pages dots w =
        subst (λ (o : Option (List ℕ)). To o m b Are) (sym same) (subst (λ (i : ℕ). To now i b Are) (sym pages) (subst (λ (i : ℕ). To now done i Are) (sym dots) w))

    -- `Are` will hold of the pages and of those of these results
    abbrev pub With : List PageResult → (List DrawnValue → Type 0) → List DrawnValue → Type 0
    With rs Are pages = Are (pages ++ drawn_in rs)

    written_each : (rs : List PageResult) (now new : Option (List ℕ)) (done black more : ℕ) (Are : List DrawnValue → Type 0) → AreHeld done rs → WroteEach counted now new more rs → To now done black (With rs Are) → To new (done + length rs) (black + more) Are
    written_each [] now new done black more Are h wrote w =
        let none : more ≡ 0 = wrote.1 in
        let here : To now done black Are = written_so g reading old now done counted black (With [] Are) Are w (subst Are (append-nil w.pages) w.are) in
        to_as now new done (done + 0) black (black + more) Are wrote.0 (omega arith) (omega arith) here
    written_each (r ∷ rs) now new done black more Are h wrote w =
        let page = wrote_it counted now wrote.0 ⊥ g reading done wrote.1 r.outcome h.0.value wrote.3 in
        let are : Are ((w.pages ++ page.0 ∷ []) ++ drawn_in rs) =
        subst Are (ap (λ (ps : List DrawnValue). w.pages ++ ps) (page.4 (drawn_in rs)) ∙ sym (append_assoc w.pages (page.0 ∷ []) (drawn_in rs))) w.are in
        let step = written_more g reading old now done counted black (With (r ∷ rs) Are) w wrote.0 page.0 page.1 page.2 (With rs Are) are in
        let here : To wrote.0 (suc done) (black + wrote.1) (With rs Are) = subst (λ (m : ℕ). To wrote.0 (suc done) (black + m) (With rs Are)) (sym page.3) step in
        let rest = written_each rs wrote.0 new (suc done) (black + wrote.1) wrote.2 Are h.1 wrote.5 here in
        let sum : more ≡ wrote.1 + wrote.2 = wrote.4 in
        to_as new new (suc done + length rs) (done + length (r ∷ rs)) (black + wrote.1 + wrote.2) (black + more) Are refl (omega arith) (omega arith) rest

    pub wrote_whole : (rs : List PageResult) (now new : Option (List ℕ)) (t u : Tally) (Are : List DrawnValue → Type 0) → AreHeld t.pages rs → WroteWhole counted now new rs t u → To now t.pages t.black (With rs Are) → To new u.pages u.black Are
    wrote_whole rs now new t u Are h wrote w =
        to_as new new (t.pages + length rs) u.pages (t.black + wrote.black) u.black Are refl wrote.pages_are wrote.black_is (written_each rs now new t.pages t.black wrote.black Are h wrote.wrote w)

    -- all of these have a bitmap
    good_each : (rs : List PageResult) (now new : Option (List ℕ)) (more : ℕ) → WroteEach counted now new more rs → (r : PageResult) → Contains rs r → HasBitmap r
    good_each [] now new more wrote r has = let less : has.0 < 0 = has.1 in absurd (omega arith)
    good_each (q ∷ rs) now new more wrote r has = elim (cons_cases q rs r has) [
      | inl same ↦ subst HasBitmap same (good_one now wrote.0 ⊥ q.outcome wrote.1 wrote.3)
      | inr rest ↦ good_each rs wrote.0 new wrote.2 wrote.5 r rest
    ]

    pub good_whole : (rs : List PageResult) (now new : Option (List ℕ)) (t u : Tally) → WroteWhole counted now new rs t u → (r : PageResult) → Contains rs r → HasBitmap r
    good_whole rs now new t u wrote r has = good_each rs now new wrote.black wrote.wrote r has

    -- up to one that wasn't
    module _ (rs : List PageResult) (now new : Option (List ℕ)) (t u : Tally) (why : WriteStop) (P : Type 0) (h : AreHeld t.pages rs) (up : WroteUpTo counted now new P rs t u why) where
      held_here : AreHeld t.pages (up.written ++ up.refused ∷ up.rest)
      held_here = subst (λ (l : List PageResult). AreHeld t.pages l) up.are h

      pub refused_held : IsHeld u.pages up.refused
      refused_held = subst (λ (p : ℕ). IsHeld p up.refused) (sym up.whole.pages_are) (held_at t.pages up.written up.refused up.rest held_here)

      pub inside_hand : (t.pages ≤ u.pages) × (u.pages < t.pages + length rs)
      inside_hand =
          let pages = up.whole.pages_are in
          let all = ap length up.are in
          let parts = length-append up.written (up.refused ∷ up.rest) in
          (omega (arith, pages), omega (arith, pages, all, parts))

      pub ends_up_to : (Fails : Type 0) → (P → Fails) → (Are : List DrawnValue → Type 0) → To now t.pages t.black (With up.written Are) → u.pages < pages_begun reading → (values : List PageValue) × AreValues g reading values
          × EndsPages old new Fails (Unit {0}) (ending_at (u.pages + 1) why) reading values × TallyMatches counted Are old new u (ending_at (u.pages + 1) why) values
      ends_up_to Fails fails Are w below =
          let mid : To up.mid u.pages u.black Are = wrote_whole up.written now up.mid t u Are (held_first t.pages up.written (up.refused ∷ up.rest) held_here) up.whole w in
          ends_at g reading old up.mid u.pages counted u.black Are mid new (u.pages + 1) (add-one u.pages) below u.noted P (Unit {0}) Fails (Unit {0}) fails (λ f. f) why
          (why_stops counted up.mid new P (Unit {0}) g reading u.pages up.refused.outcome why refused_held.value (λ f. tt) up.cause)

      pub cause_up_to : (page : ℕ) → ending_at (u.pages + 1) why ≡ Source page → SomeFailed page
      cause_up_to page e =
          let f = source_failed counted up.mid new P page u.pages up.refused.outcome why up.cause e in
          subst SomeFailed (sym f.1) (refused_held.failed (subst (λ (o : Result Drawn PageStop). IsErrOf o draw.SourceFault) (sym f.0) refl))

      held_rest : AreHeld (suc u.pages) up.rest
      held_rest =
          let pages = up.whole.pages_are in
          let at : suc (t.pages + length up.written) ≡ suc u.pages = omega (arith, pages) in
          subst (λ (p : ℕ). AreHeld p up.rest) at (held_last t.pages up.written (up.refused ∷ up.rest) held_here).1

      -- a page that was broken off is that one, which isn't written, or one after it
      pub cut_off : (p : ℕ) → CutAmong rs p → sure_pages (ending_at (u.pages + 1) why) u.pages ≤ p
      cut_off p cut =
          let number : cut.0.page ≡ p = cut.2 in
          elim (Contains-append_cases up.written (up.refused ∷ up.rest) cut.0 (subst (λ (l : List PageResult). Contains l cut.0) up.are cut.1)) [
            | inl before ↦ absurd (cut.3 (bitmap_whole cut.0.outcome (good_whole up.written now up.mid t u up.whole cut.0 before)))
            | inr after ↦ elim (cons_cases up.refused up.rest cut.0 after) [
              | inl here ↦
                  let at : cut.0.page ≡ u.pages = subst (λ (x : PageResult). x.page ≡ u.pages) here refused_held.number in
                  let broken : IsWhole up.refused.outcome → ⊥ = subst (λ (x : PageResult). IsWhole x.outcome → ⊥) (sym here) cut.3 in
                  let none = sure_where_cut counted up.mid new P (u.pages + 1) u.pages up.refused.outcome why up.cause broken in
                  omega (arith, at, number, none)
              | inr later ↦
                  let at = held_in (suc u.pages) up.rest held_rest cut.0 later in
                  let most = few_sure (ending_at (u.pages + 1) why) u.pages in
                  omega (arith, at.0, number, most)
            ]
          ]

      -- one page alone is that one
      pub refused_alone : length rs ≤ 1 → (r : PageResult) → Contains rs r → up.refused ≡ r
      refused_alone one r has =
          let all = ap length up.are in
          let parts = length-append up.written (up.refused ∷ up.rest) in
          let none : length up.written ≡ 0 = omega (arith, all, parts) in
          let last : length up.rest ≡ 0 = omega (arith, all, parts) in
          let alone : rs ≡ up.refused ∷ [] = up.are ∙ (ap (λ (l : List PageResult). l ++ up.refused ∷ up.rest) (is_empty up.written none) ∙ ap (λ (l : List PageResult). up.refused ∷ l) (is_empty up.rest last)) in
          let here : Contains (up.refused ∷ []) r = subst (λ (l : List PageResult). Contains l r) alone has in
          only up.refused r here.0 here.1 here.2

      -- which wasn't broken off
      pub whole_alone : length rs ≤ 1 → WasNotCutOff (ending_at (u.pages + 1) why) → AreWhole rs
      whole_alone one unbroken r has =
          let whole = whole_outcome counted up.mid new P (u.pages + 1) up.refused.outcome why up.cause unbroken in
          subst (λ (q : PageResult). IsWhole q.outcome) (refused_alone one r has) whole
