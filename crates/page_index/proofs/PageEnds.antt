-- Each page of a document has its end.
use Rattle.std.proofs.Common.{◌≡◌, ℕ, zero, suc, ◌<◌, ◌⊎◌, inl, inr, Bool, true, false, List, [], ◌∷◌, refl, sym, ap, subst, ◌∙◌, arith, Some}
use Rattle.std.specs.Prelude.{slice_index, IsSome, IsTrue, ◌&&◌, ◌||◌, ◌==◌, not, if◌then◌else◌}
use Rattle.std.proofs.lemmas.Bool.{cases_Bool, true≢false}
use Rattle.dvi_commands.specs.Spelling.{DviCommand, Bop, Post, Spells}
use Rattle.dvi_commands.specs.Refusal.{may_stand}
use Rattle.dvi_commands.specs.Reading.{Placed}
use Rattle.dvi_commands.specs.declared.command.Context.{Context}
use Rattle.dvi_commands.specs.declared.command.Context.TheVariants as context
use Rattle.page_index.specs.Document.{IsSound, Reading, Sound, context_after, is_bop, is_eop, is_page_open, is_post, is_post_read, pages_begun}
use Rattle.page_index.specs.Pages.{eop_at}
use Rattle.page_index.specs.Laws.{EachPageEnds}
use Rattle.page_index.proofs.Contexts.{SaysOf, after_pages, between_pages, says_of}
use Rattle.page_index.proofs.Ended.{post_is_read}

says_at : (r : Reading) (place : Context) → context_after r ≡ place → SaysOf place r
says_at r place e = subst (λ (c : Context). SaysOf c r) e (says_of r)

first_op : (n : ℕ) (bytes rest : List ℕ) → bytes ≡ n ∷ rest → slice_index bytes 0 ≡ n
first_op n bytes rest e = ap (λ (b : List ℕ). slice_index b 0) e

-- a Bop and a Post stand where no page is open
closed_at_bop : (res : ℕ) (q : Placed) (r : Reading) (c : DviCommand) → IsSound res r q → q.command ≡ c → is_bop c ≡ true → is_page_open r ≡ false
closed_at_bop res q r (Bop counts back) h e is =
    let spelled : Spells (Bop counts back) q.bytes = subst (λ (c : DviCommand). Spells c q.bytes) e h.spelled in
    let op : slice_index q.bytes 0 ≡ 139 = first_op 139 q.bytes _ spelled.2 in
    (says_at r context.Between (between_pages (context_after r) (subst (λ (n : ℕ). IsTrue (may_stand (context_after r) n)) op h.allowed))).1
closed_at_bop res q r _ h e is = cc

same_number : (a b : ℕ) → a ≡ b → (a == b) ≡ true
same_number a b e = grind (arith, e)

nat_cases : (i n : ℕ) → i < suc n → (i < n) ⊎ (i ≡ n)
nat_cases i zero h = inr (omega (arith, h))
nat_cases zero (suc n) h = inl (omega arith)
nat_cases (suc i) (suc n) h = elim (nat_cases i n (omega (arith, h))) [ inl less ↦ inl (omega (arith, less)) | inr same ↦ inr (ap suc same) ]

-- a page that was begun has its end, or is the last one and open
ends_or_open : (res : ℕ) (r : Reading) → Sound res r → (i : ℕ) → i < pages_begun r → IsSome (eop_at i r) ⊎ ((is_page_open r ≡ true) × (suc i ≡ pages_begun r))
ends_or_open res [] s i h = absurd (omega (arith, h))
ends_or_open res (q ∷ before) s i h =
    by (is_bop q.command) refl (is_eop q.command) refl (ends_or_open res before s.0 i) h
  where
    Ends : Bool → Bool → Type 0
    Ends bop eop = IsSome (if eop && pages_begun before == suc i then Some q.at else eop_at i before) ⊎ (((bop || not eop && is_page_open before) ≡ true) × (suc i ≡ (if bop then suc (pages_begun before) else pages_begun before)))

    some_if : (b : Bool) → IsSome (eop_at i before) → IsSome (if b then Some q.at else eop_at i before)
    some_if true h = refl
    some_if false h = h

    at_end : (b : Bool) → b ≡ true → IsSome (if b then Some q.at else eop_at i before)
    at_end true e = refl
    at_end false e = cc

    by : (bop : Bool) → is_bop q.command ≡ bop → (eop : Bool) → is_eop q.command ≡ eop → (i < pages_begun before → IsSome (eop_at i before) ⊎ ((is_page_open before ≡ true) × (suc i ≡ pages_begun before)))
        → i < (if bop then suc (pages_begun before) else pages_begun before) → Ends bop eop
    by true b eop e older h = elim (nat_cases i (pages_begun before) h) [
      | inl less ↦ elim (older less) [
        | inl some ↦ inl (some_if (eop && pages_begun before == suc i) some)
        | inr open_page ↦ absurd (true≢false (sym open_page.0 ∙ closed_at_bop res q before q.command s.1 refl b))
      ]
      | inr last ↦ inr (refl, ap suc last)
    ]
    by false b true e older h = elim (older h) [
      | inl some ↦ inl (some_if (pages_begun before == suc i) some)
      | inr open_page ↦ inl (at_end (pages_begun before == suc i) (same_number (pages_begun before) (suc i) (sym open_page.1)))
    ]
    by false b false e older h = elim (older h) [
      | inl some ↦ inl some
      | inr open_page ↦ inr open_page
    ]

-- after the postamble no page is open
post_closed : (res : ℕ) (q : Placed) (r : Reading) (c : DviCommand) → IsSound res r q → q.command ≡ c → is_post c ≡ true → is_page_open r ≡ false
post_closed res q r (Post x) h e is =
    let spelled : Spells (Post x) q.bytes = subst (λ (c : DviCommand). Spells c q.bytes) e h.spelled in
    let op : slice_index q.bytes 0 ≡ 248 = first_op 248 q.bytes _ spelled.2 in
    (says_at r context.Between (after_pages (context_after r) (subst (λ (n : ℕ). IsTrue (may_stand (context_after r) n)) op h.allowed))).1
post_closed res q r _ h e is = cc

not_begun : (res : ℕ) (q : Placed) (r : Reading) (c : DviCommand) → IsSound res r q → q.command ≡ c → is_post_read r ≡ true → is_bop c ≡ false
not_begun res q r (Bop counts back) h e read =
    let spelled : Spells (Bop counts back) q.bytes = subst (λ (c : DviCommand). Spells c q.bytes) e h.spelled in
    let op : slice_index q.bytes 0 ≡ 139 = first_op 139 q.bytes _ spelled.2 in
    let place = says_at r context.Between (between_pages (context_after r) (subst (λ (n : ℕ). IsTrue (may_stand (context_after r) n)) op h.allowed)) in
    absurd (true≢false (sym read ∙ place.0))
not_begun res q r _ h e read = refl

closed_after_post : (res : ℕ) (r : Reading) → Sound res r → is_post_read r ≡ true → is_page_open r ≡ false
closed_after_post res [] s h = refl
closed_after_post res (q ∷ before) s h =
    elim (cases_Bool (is_post_read before)) [
      | inl read ↦ rw (not_begun res q before q.command s.1 refl read) (shut (is_eop q.command) (is_page_open before) (closed_after_post res before s.0 read))
      | inr unread ↦
          let post : is_post q.command ≡ true = this (is_post q.command) (is_post_read before) h unread in
          rw (post_not_bop q.command post) (shut (is_eop q.command) (is_page_open before) (post_closed res q before q.command s.1 refl post))
    ]
  where
    shut : (eop open_page : Bool) → open_page ≡ false → (not eop && open_page) ≡ false
    shut true open_page e = refl
    shut false open_page e = e

    this : (a b : Bool) → (a || b) ≡ true → b ≡ false → a ≡ true
    this true b h e = refl
    this false true h e = cc
    this false false h e = cc

    post_not_bop : (c : DviCommand) → is_post c ≡ true → is_bop c ≡ false
    post_not_bop (Post x) e = refl
    post_not_bop _ e = cc

pub each_page_ends : EachPageEnds
each_page_ends res bytes reading i doc h =
    elim (ends_or_open res reading doc.sound i h) [
      | inl some ↦ some
      | inr open_page ↦ absurd (true≢false (sym open_page.0 ∙ closed_after_post res reading doc.sound (post_is_read res reading doc.sound doc.ended)))
    ]
