-- Pages follow one another.
use Rattle.std.proofs.Common.{◌≡◌, ℕ, suc, ◌+◌, ◌<◌, ◌≤◌, ◌⊎◌, inl, inr, Bool, true, false, List, [], ◌∷◌, ◌++◌, length, refl, sym, ap, subst, ◌∙◌, arith, Option, Some, None}
use Rattle.std.specs.Prelude.{All, IsSome, ◌&&◌, ◌||◌, ◌==◌, not, if◌then◌else◌}
use Rattle.std.proofs.lemmas.Bool.{and_parts, cases_Bool, cases_lt, eqb-true, true≢false}
use Rattle.std.proofs.lemmas.List.Elements.{All-append, All-cons, All-nil}
use Rattle.dvi_commands.specs.Reading.{Placed}
use Rattle.dvi_commands.proofs.Refusals.{spelled_some}
use Rattle.page_index.specs.Document.{IsDocument, Reading, Sound, context_after, end_of, is_bop, is_eop, is_page_open, is_post_read, pages_begun}
use Rattle.page_index.specs.Pages.{eop_at, is_page, page_commands}
use Rattle.page_index.specs.Laws.{PagesAreApart, PagesFollowOneAnother}
use Rattle.page_index.proofs.PageEnds.{each_page_ends}
use Rattle.page_index.proofs.Spans.{none_yet}

-- ---- one command more

some_at : {A : Type 0} (b : Bool) (x : A) (o : Option A) (e : A) → (if b then Some x else o) ≡ Some e → ((b ≡ true) × (x ≡ e)) ⊎ ((b ≡ false) × (o ≡ Some e))
some_at true x o e h = inl (refl, cc)
some_at false x o e h = inr (refl, h)

begun_more : (q : Placed) (before : Reading) → pages_begun before ≤ pages_begun (q ∷ before)
begun_more q before = by (is_bop q.command) (pages_begun before)
  where
    by : (bop : Bool) (n : ℕ) → n ≤ (if bop then suc n else n)
    by true n = omega arith
    by false n = omega arith

-- the Eop of page i stands after the beginning of page i
ended_is_begun : (i : ℕ) (r : Reading) (e : ℕ) → eop_at i r ≡ Some e → i < pages_begun r
ended_is_begun i [] e h = cc
ended_is_begun i (q ∷ before) e h = elim (some_at (is_eop q.command && pages_begun before == suc i) q.at (eop_at i before) e h) [
  | inl here ↦
      let last : pages_begun before ≡ suc i = eqb-true _ _ (and_parts (is_eop q.command) (pages_begun before == suc i) here.0).1 in
      omega (arith, last, begun_more q before)
  | inr older ↦ omega (arith, ended_is_begun i before e older.1, begun_more q before)
]

-- the last page is closed where its Eop was read
closed_by : (bop eop open_page : Bool) (n i : ℕ) → (if bop then suc n else n) ≡ suc i → i < n → (n ≡ suc i → open_page ≡ false) → (bop || not eop && open_page) ≡ false
closed_by true eop open_page n i last begun older = absurd (omega (arith, last, begun))
closed_by false true open_page n i last begun older = refl
closed_by false false open_page n i last begun older = older last

shut_by : (bop eop open_page : Bool) (n i : ℕ) → (if bop then suc n else n) ≡ suc i → (eop && n == suc i) ≡ true → (bop || not eop && open_page) ≡ false
shut_by true eop open_page n i last here =
    let same : n ≡ suc i = eqb-true _ _ (and_parts eop (n == suc i) here).1 in
    absurd (omega (arith, last, same))
shut_by false true open_page n i last here = refl
shut_by false false open_page n i last here = cc

ended_is_closed : (i : ℕ) (r : Reading) (e : ℕ) → eop_at i r ≡ Some e → pages_begun r ≡ suc i → is_page_open r ≡ false
ended_is_closed i [] e h last = refl
ended_is_closed i (q ∷ before) e h last = elim (some_at (is_eop q.command && pages_begun before == suc i) q.at (eop_at i before) e h) [
  | inl here ↦ shut_by (is_bop q.command) (is_eop q.command) (is_page_open before) (pages_begun before) i last here.0
  | inr older ↦ closed_by (is_bop q.command) (is_eop q.command) (is_page_open before) (pages_begun before) i last (ended_is_begun i before e older.1) (ended_is_closed i before e older.1)
]

closed_is_off_page : (r : Reading) → is_page_open r ≡ false → is_page (context_after r) ≡ false
closed_is_off_page [] h = refl
closed_is_off_page (q ∷ before) h = elim (cases_Bool (is_post_read (q ∷ before))) [
  | inl read ↦ rw read refl
  | inr unread ↦ rw (unread, h) refl
]

-- ---- positions

ended_before : (res i : ℕ) (r : Reading) (e : ℕ) → Sound res r → eop_at i r ≡ Some e → e < end_of r
ended_before res i [] e s h = cc
ended_before res i (q ∷ before) e s h =
    let some : 0 < length q.bytes = spelled_some q.command q.bytes s.1.spelled in
    elim (some_at (is_eop q.command && pages_begun before == suc i) q.at (eop_at i before) e h) [
      | inl here ↦ omega (arith, here.1, some)
      | inr older ↦ omega (arith, ended_before res i before e s.0 older.1, s.1.place)
    ]

abbrev EndsBy : ℕ → Placed → Type 0
EndsBy end p = p.at + length p.bytes ≤ end

abbrev IsAfter : ℕ → Placed → Type 0
IsAfter end p = end < p.at

-- what holds of the commands of a page so far holds of them and of one more, where it is on the
-- page
abbrev OnPage : (Placed → Type 0) → ℕ → Reading → Type 0
OnPage P i r = All P (page_commands i r)

one_more : (P : Placed → Type 0) (i : ℕ) (q : Placed) (before : Reading) → OnPage P i before → ((is_page (context_after before) && not (is_eop q.command) && pages_begun before == suc i) ≡ true → P q) → OnPage P i (q ∷ before)
one_more P i q before all is = by (is_page (context_after before) && not (is_eop q.command) && pages_begun before == suc i) is
  where
    by : (on : Bool) → (on ≡ true → P q) → All P (if on then page_commands i before ++ q ∷ [] else page_commands i before)
    by true is = All-append P (page_commands i before) (q ∷ []) all (All-cons P q [] (is refl) (All-nil P))
    by false is = all

within : (res i : ℕ) (r : Reading) (end : ℕ) → Sound res r → end_of r ≤ end → OnPage (EndsBy end) i r
within res i [] end s h = All-nil (EndsBy end)
within res i (q ∷ before) end s h =
    one_more (EndsBy end) i q before (within res i before end s.0 (omega (arith, h, s.1.place))) (λ on. h)

-- the commands of a page lie before its Eop
before_eop : (res i : ℕ) (r : Reading) (end : ℕ) → Sound res r → eop_at i r ≡ Some end → OnPage (EndsBy end) i r
before_eop res i [] end s h = cc
before_eop res i (q ∷ before) end s h = elim (some_at (is_eop q.command && pages_begun before == suc i) q.at (eop_at i before) end h) [
  | inl here ↦ one_more (EndsBy end) i q before (within res i before end s.0 (omega (arith, here.1, s.1.place))) (λ on. absurd (not_eop on (and_parts (is_eop q.command) (pages_begun before == suc i) here.0).0))
  | inr older ↦ one_more (EndsBy end) i q before (before_eop res i before end s.0 older.1) (λ on. absurd (off older.1 on))
]
  where
    not_eop : (is_page (context_after before) && not (is_eop q.command) && pages_begun before == suc i) ≡ true → is_eop q.command ≡ true → ⊥
    not_eop on eop = by (is_page (context_after before)) (is_eop q.command) (pages_begun before == suc i) on eop
      where
        by : (page eop it : Bool) → (page && not eop && it) ≡ true → eop ≡ true → ⊥
        by true true it h e = cc
        by false eop it h e = cc
        by true false it h e = cc

    off : eop_at i before ≡ Some end → (is_page (context_after before) && not (is_eop q.command) && pages_begun before == suc i) ≡ true → ⊥
    off ended on =
        let last : pages_begun before ≡ suc i = eqb-true _ _ (and_parts (is_page (context_after before) && not (is_eop q.command)) (pages_begun before == suc i) on).1 in
        let page : is_page (context_after before) ≡ true = (and_parts (is_page (context_after before)) (not (is_eop q.command)) (and_parts (is_page (context_after before) && not (is_eop q.command)) (pages_begun before == suc i) on).0).0 in
        true≢false (sym page ∙ closed_is_off_page before (ended_is_closed i before end ended last))

-- and those of a later page after it
after_eop : (res i j : ℕ) (r : Reading) (end : ℕ) → Sound res r → i < j → eop_at i r ≡ Some end → OnPage (IsAfter end) j r
after_eop res i j [] end s lt h = cc
after_eop res i j (q ∷ before) end s lt h = elim (some_at (is_eop q.command && pages_begun before == suc i) q.at (eop_at i before) end h) [
  | inl here ↦
      let last : pages_begun before ≡ suc i = eqb-true _ _ (and_parts (is_eop q.command) (pages_begun before == suc i) here.0).1 in
      one_more (IsAfter end) j q before (subst (All (IsAfter end)) (sym (none_yet j before (omega (arith, last, lt)))) (All-nil (IsAfter end)))
      (λ on. absurd (omega (arith, last, lt, eqb-true _ _ (and_parts (is_page (context_after before) && not (is_eop q.command)) (pages_begun before == suc j) on).1)))
  | inr older ↦ one_more (IsAfter end) j q before (after_eop res i j before end s.0 lt older.1) (λ on. omega (arith, ended_before res i before end s.0 older.1, s.1.place))
]

pub pages_follow_one_another : PagesFollowOneAnother
pages_follow_one_another res bytes reading i j end doc lt ends = (before_eop res i reading end doc.sound ends, after_eop res i j reading end doc.sound lt ends)

-- ---- apart

its_end : (o : Option ℕ) → IsSome o → (e : ℕ) × (o ≡ Some e)
its_end None h = cc
its_end (Some e) h = (e, refl)

-- of two pages the first ends before the second
earlier_and_later : (res : ℕ) (bytes : List ℕ) (reading : Reading) (i j : ℕ) → IsDocument res bytes reading → i < j
    → (page_commands j reading ≡ []) ⊎ ((end : ℕ) × OnPage (EndsBy end) i reading × OnPage (IsAfter end) j reading)
earlier_and_later res bytes reading i j doc lt = elim (cases_lt j (pages_begun reading)) [
  | inl begun ↦
      let e = its_end (eop_at i reading) (each_page_ends res bytes reading i doc (omega (arith, begun, lt))) in
      let both = pages_follow_one_another res bytes reading i j e.0 doc lt e.1 in
      inr (e.0, both.0, both.1)
  | inr none ↦ inl (none_yet j reading none)
]

pub pages_are_apart : PagesAreApart
pages_are_apart res bytes reading i j doc other = elim (cases_lt i j) [
  | inl lt ↦ elim (earlier_and_later res bytes reading i j doc lt) [
    | inl none ↦ λ k p inside. λ m q within. absurd (omega (arith, within, ap length none))
    | inr a ↦ λ k p inside. λ m q within. λ same. omega (arith, a.1 k p inside, a.2 m q within, same)
  ]
  | inr ge ↦
      let lt : j < i = omega (arith, ge, other) in
      elim (earlier_and_later res bytes reading j i doc lt) [
        | inl none ↦ λ k p inside. absurd (omega (arith, inside, ap length none))
        | inr a ↦ λ k p inside. λ m q within. λ same. omega (arith, a.2 k p inside, a.1 m q within, same)
      ]
]
