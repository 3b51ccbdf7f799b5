-- The commands of pages, one command more.
use Rattle.std.proofs.Common.{◌≡◌, ℕ, zero, suc, ◌+◌, ◌-◌, ◌<◌, ◌≤◌, ◌⊎◌, inl, inr, Bool, true, false, List, [], ◌∷◌, ◌++◌, length, take, drop, refl, sym, ap, subst, ◌∙◌, arith, Some, length-take, length-drop}
use Rattle.std.specs.Prelude.{slice_get, slice_index, slice_range, IsTrue, ◌&&◌, ◌==◌, not, if◌then◌else◌}
use Rattle.std.proofs.Math.Seq.{take-add}
use Rattle.std.proofs.lemmas.Bool.{ne_eqb, cases_Bool}
use Rattle.std.proofs.lemmas.List.{drop-drop}
use Rattle.std.proofs.lemmas.Option.{slice_get_within}
use Rattle.dvi_commands.specs.Spelling.{Spells}
use Rattle.dvi_commands.specs.Refusal.{may_stand}
use Rattle.dvi_commands.specs.Reading.{Placed}
use Rattle.dvi_commands.specs.declared.command.Context.TheVariants as context
use Rattle.page_index.specs.Document.{Reading, context_after, is_bop, is_eop, pages_begun}
use Rattle.page_index.specs.Pages.{eop_at, is_page, page_commands}
use Rattle.page_index.specs.Walked.{AreSpans, FillSpan, IsSpan, Runs}
use Rattle.page_index.specs.declared.progress.PageSpan.{PageSpan}
use Rattle.page_index.proofs.Runs.{on_page_more, runs_more}

-- a span and the one after it
spans : (bytes : List ℕ) (start end next : ℕ) → start ≤ end → end ≤ next → slice_range bytes start next ≡ slice_range bytes start end ++ slice_range bytes end next
spans bytes start end next a b =
    let sum : (end - start) + (next - end) ≡ next - start = omega arith in
    ap (λ (n : ℕ). take n (drop start bytes)) (sym sum) ∙ take-add (end - start) (next - end) (drop start bytes)
    ∙ ap (λ (t : List ℕ). take (end - start) (drop start bytes) ++ take (next - end) t) (drop-drop (end - start) start bytes ∙ ap (λ (n : ℕ). drop n bytes) (sum_is start end a))
  where
    sum_is : (start end : ℕ) → start ≤ end → start + (end - start) ≡ end
    sum_is start end a = omega arith

pub no_span : (bytes : List ℕ) (n : ℕ) → slice_range bytes n n ≡ []
no_span bytes n =
    let none : n - n ≡ 0 = omega arith in
    ap (λ (k : ℕ). take k (drop n bytes)) none

-- a page that is not begun has no command
pub none_yet : (i : ℕ) (r : Reading) → pages_begun r ≤ i → page_commands i r ≡ []
none_yet i [] h = refl
none_yet i (p ∷ before) h = one_less (is_bop p.command) (is_page (context_after before) && not (is_eop p.command)) (pages_begun before) (page_commands i before) p h (none_yet i before)
  where
    one_less : (bop on : Bool) (n : ℕ) (cs : List Placed) (c : Placed) → (if bop then suc n else n) ≤ i → (n ≤ i → cs ≡ []) → (if on && n == suc i then cs ++ c ∷ [] else cs) ≡ []
    one_less true true n cs c e h = let other : (n == suc i) ≡ false = ne_eqb n (suc i) (λ same. omega (arith, e, same)) in rw other (h (omega (arith, e)))
    one_less false true n cs c e h = let other : (n == suc i) ≡ false = ne_eqb n (suc i) (λ same. omega (arith, e, same)) in rw other (h e)
    one_less true false n cs c e h = h (omega (arith, e))
    one_less false false n cs c e h = h e

-- one more at the end of a list
pub get_push : {A : Type 0} (xs : List A) (x : A) (i : ℕ) (s : A) → slice_get (xs ++ x ∷ []) i ≡ Some s → (slice_get xs i ≡ Some s) ⊎ ((i ≡ length xs) × (x ≡ s))
get_push [] x zero s e = inr (refl, cc)
get_push [] x (suc i) s e = absurd cc
get_push (y ∷ xs) x zero s e = inl e
get_push (y ∷ xs) x (suc i) s e = elim (get_push xs x i s e) [ inl there ↦ inl there | inr last ↦ inr (ap suc last.0, last.1) ]

-- a command after n whole pages changes none of them
module _ (r : Reading) (q : Placed) (done : ℕ) (whole : is_page (context_after r) ≡ true → pages_begun r ≡ suc done) (end_on_page : is_eop q.command ≡ true → is_page (context_after r) ≡ true) where
  on_later : (i : ℕ) → i < done → is_page (context_after r) ≡ true → (pages_begun r == suc i) ≡ false
  on_later i h on = ne_eqb (pages_begun r) (suc i) (λ same. omega (arith, h, whole on, same))

  pub commands_stay : (i : ℕ) → i < done → page_commands i (q ∷ r) ≡ page_commands i r
  commands_stay i h = elim (cases_Bool (is_page (context_after r))) [
    | inl on ↦ stay (is_page (context_after r)) (is_eop q.command) (pages_begun r == suc i) (on_later i h on)
    | inr off ↦ rw off refl
  ]
    where
      stay : (on eop it : Bool) → it ≡ false → (if on && not eop && it then page_commands i r ++ q ∷ [] else page_commands i r) ≡ page_commands i r
      stay true true it e = refl
      stay true false it e = rw e refl
      stay false eop it e = refl

  pub end_stays : (i : ℕ) → i < done → eop_at i (q ∷ r) ≡ eop_at i r
  end_stays i h = elim (cases_Bool (is_eop q.command)) [
    | inl eop ↦ rw (eop, on_later i h (end_on_page eop)) refl
    | inr other ↦ rw other refl
  ]

  pub spans_stay : (bytes : List ℕ) (pages : List PageSpan) → length pages ≡ done → AreSpans bytes r pages → AreSpans bytes (q ∷ r) pages
  spans_stay bytes pages len are i s e =
      let inside : i < done = subst (λ (n : ℕ). i < n) len (slice_get_within pages i s e) in
      let old : IsSpan bytes r i s = are i s e in
      record { fills = subst (λ (cs : List Placed). FillSpan bytes cs s.start s.end) (sym (commands_stay i inside)) old.fills; ends = end_stays i inside ∙ old.ends }

-- a command more fills the span to its end
pub fills_more : (bytes : List ℕ) (commands : List Placed) (start at next : ℕ) (q : Placed) → FillSpan bytes commands start at → q.at ≡ at → q.bytes ≡ slice_range bytes at next → at < next → next ≤ length bytes
    → Spells q.command q.bytes → IsTrue (may_stand context.Page (slice_index q.bytes 0)) → FillSpan bytes (commands ++ q ∷ []) start next
fills_more bytes commands start at next q old place lie some within spelled allowed =
    let size : length (slice_range bytes start at) ≡ at - start = grind (arith, length-take, length-drop, old.inside) in
    let after : q.at ≡ start + length (slice_range bytes start at) = omega (arith, place, size, old.order) in
    let whole : slice_range bytes start at ++ q.bytes ≡ slice_range bytes start next =
    ap (λ (b : List ℕ). slice_range bytes start at ++ b) lie ∙ sym (spans bytes start at next old.order (omega (arith, some))) in
    record {
      order = omega (arith, old.order, some);
      inside = within;
      runs = subst (λ (b : List ℕ). Runs start (commands ++ q ∷ []) b) whole (runs_more start commands (slice_range bytes start at) q old.runs after spelled);
      allowed = on_page_more commands q old.allowed allowed;
    }
