-- The commands of a page's bytes, after the beginning of the page.
use Rattle.std.proofs.Common.{◌≡◌, ◌∙◌, inl, inr, ℕ, suc, ◌+◌, ◌<◌, ℤ, Bool, true, false, List, [], ◌∷◌, ◌++◌, length, Option, Some, None, refl, sym, ap, subst, arith, append_assoc, append-nil, length-append}
use Rattle.std.specs.Prelude.{reverse, IsTrue, ◌&&◌, ◌==◌, not, if◌then◌else◌, slice_index}
use Rattle.std.specs.List.{AllByRecursion}
use Rattle.std.proofs.lemmas.Bool.{cases_Bool, ne_eqb, eq-eqb}
use Rattle.outside.specs.declared.keys.FontKey.{FontKey}
use Rattle.dvi_commands.specs.Spelling.{DviCommand, Preamble, Bop, Eop, Post, PostPost, Pre, Spells}
use Rattle.dvi_commands.specs.ShortestSpelling.{shortest_spelling}
use Rattle.dvi_commands.specs.Refusal.{may_stand}
use Rattle.dvi_commands.specs.Reading.{AreCommands, Placed, commands_of, placed, placed_from}
use Rattle.dvi_commands.specs.declared.command.Context.TheVariants as context
use Rattle.dvi_commands.proofs.Commands.{commands_first, commands_none, placed_first, placed_none}
use Rattle.page_index.specs.Document.{Reading, context_after, end_of, font_table, key_or, is_bop, is_ended, is_eop, is_page_open, is_post, is_post_read, is_postpost, last_bop, pages_begun, preamble_of, preamble_or, text_of}
use Rattle.page_index.specs.Pages.{is_page, page_commands}
use Rattle.sample_maker.specs.DviFile.{IsPageText, NeverDefines, reading_after, after_text}
use Rattle.sample_maker.proofs.Spelled.{AreSpelled, reversed_onto}

-- ---- one command more

pub text_none : (before : Reading) → after_text before [] ≡ before
text_none before = ap (λ cs. reverse cs ++ before) (placed_none (end_of before))

abbrev pub with : Reading → DviCommand → List ℕ → Reading
with before c prefix = placed (end_of before) c prefix ∷ before

pub text_more : (before : Reading) (c : DviCommand) (prefix rest : List ℕ) → Spells c prefix → after_text before (prefix ++ rest) ≡ after_text (with before c prefix) rest
text_more before c prefix rest h =
    ap (λ cs. reverse cs ++ before) (placed_first (end_of before) c prefix rest h)
    ∙ reversed_onto (placed (end_of before) c prefix) (placed_from (end_of before + length prefix) rest) before

-- what each command keeps holds after them all
walk : (P : Reading → Type 0) → ((before : Reading) (c : DviCommand) (prefix : List ℕ) → P before → Spells c prefix → IsTrue (may_stand context.Page (slice_index prefix 0)) → is_eop c ≡ false → P (with before c prefix))
    → (commands : List DviCommand) (body : List ℕ) (before : Reading) → AreCommands context.Page commands body → AllByRecursion (λ c. is_eop c ≡ false) commands → P before → P (after_text before body)
walk P step [] body before are ends p = subst P (sym (ap (after_text before) are ∙ text_none before)) p
walk P step (c ∷ commands) body before are ends p =
    subst P (sym (ap (after_text before) are.2.whole ∙ text_more before c are.0 are.1 are.2.spelled))
    (walk P step commands are.1 (with before c are.0) are.3 ends.1 (step before c are.0 p are.2.spelled are.2.allowed ends.0))

pub text_after : (body : List ℕ) (before : Reading) → IsPageText body → text_of (after_text before body) ≡ text_of before ++ body
text_after body before is = by is.commands body before is.are
  where
    by : (commands : List DviCommand) (body : List ℕ) (before : Reading) → AreCommands context.Page commands body → text_of (after_text before body) ≡ text_of before ++ body
    by [] body before are = ap (λ b. text_of (after_text before b)) are ∙ ap text_of (text_none before) ∙ sym (append-nil (text_of before)) ∙ ap (λ b. text_of before ++ b) (sym are)
    by (c ∷ commands) body before are =
        ap (λ b. text_of (after_text before b)) are.2.whole ∙ ap text_of (text_more before c are.0 are.1 are.2.spelled)
        ∙ by commands are.1 (with before c are.0) are.3
        ∙ append_assoc (text_of before) are.0 are.1
        ∙ ap (λ b. text_of before ++ b) (sym are.2.whole)

-- ---- what a page's commands leave as it was

-- the preamble, whether the postamble was read and a page is open, and the pages begun with the
-- position of the last
pub record Stands (q : Preamble) (post open_page : Bool) (n : ℕ) (back : ℤ) (r : Reading) : Type 0 where
  pub spelled : AreSpelled r
  pub going : is_ended r ≡ false
  pub post_is : is_post_read r ≡ post
  pub open_is : is_page_open r ≡ open_page
  pub begun : pages_begun r ≡ n
  pub last : last_bop r ≡ back
  pub preamble : preamble_of r ≡ Some q

pub record IsOfPage (c : DviCommand) : Type 0 where
  pub bop : is_bop c ≡ false
  pub eop : is_eop c ≡ false
  pub post : is_post c ≡ false
  pub postpost : is_postpost c ≡ false
  pub pre : (o : Option Preamble) → preamble_or o c ≡ o

op_of : (prefix text : List ℕ) → IsTrue (may_stand context.Page (slice_index prefix 0)) → prefix ≡ text → IsTrue (may_stand context.Page (slice_index text 0))
op_of prefix text h e = subst (λ t. IsTrue (may_stand context.Page (slice_index t 0))) e h

pub plain : (c : DviCommand) (prefix : List ℕ) → Spells c prefix → IsTrue (may_stand context.Page (slice_index prefix 0)) → is_eop c ≡ false → IsOfPage c
plain (Bop counts back) prefix s h e = let no = op_of prefix _ h s.2 in cc
plain Eop prefix s h e = cc
plain (Pre q) prefix s h e = let no = op_of prefix _ h s.2 in cc
plain (Post q) prefix s h e = let no = op_of prefix _ h s.2 in cc
plain (PostPost q id) prefix s h e = let no = op_of prefix _ h s.2 in cc
plain _ prefix s h e = record { bop = refl; eop = refl; post = refl; postpost = refl; pre = λ o. refl }

pub last_stays : (body : List ℕ) (before : Reading) → IsPageText body → last_bop (after_text before body) ≡ last_bop before
last_stays body before is =
    walk (λ r. last_bop r ≡ last_bop before) (λ r c prefix p s a e. rw (plain c prefix s a e).bop p) is.commands body before is.are is.no_end refl

-- the bytes end where the next command begins
abbrev pub IsEven : Reading → Type 0
IsEven r = length (text_of r) ≡ end_of r

even_with : (before : Reading) (c : DviCommand) (prefix : List ℕ) → IsEven before → IsEven (with before c prefix)
even_with before c prefix h = omega (arith, length-append (text_of before) prefix, h)

pub even_text : (body : List ℕ) (before : Reading) → IsPageText body → IsEven before → IsEven (after_text before body)
even_text body before is h = walk IsEven (λ r c prefix p s a e. even_with r c prefix p) is.commands body before is.are is.no_end h

pub even_after : (before : Reading) (c : DviCommand) → IsEven before → IsEven (reading_after before c)
even_after before c h = even_with before c (shortest_spelling c) h

module _ (q : Preamble) (post open_page : Bool) (n : ℕ) (back : ℤ) where
  pub plain_more : (before : Reading) (c : DviCommand) (prefix : List ℕ) → IsOfPage c → Stands q post open_page n back before → Spells c prefix → Stands q post open_page n back (with before c prefix)
  plain_more before c prefix is h s = record {
    spelled = (h.spelled, record { unfinished = h.going; place = refl; spelled = s });
    going = is.postpost;
    post_is = rw is.post h.post_is;
    open_is = rw (is.bop, is.eop) h.open_is;
    begun = rw is.bop h.begun;
    last = rw is.bop h.last;
    preamble = is.pre (preamble_of before) ∙ h.preamble;
  }

  pub text_stands : (body : List ℕ) (before : Reading) → IsPageText body → Stands q post open_page n back before → Stands q post open_page n back (after_text before body)
  text_stands body before is h = walk (Stands q post open_page n back) (λ r c prefix p s a e. plain_more r c prefix (plain c prefix s a e) p s) is.commands body before is.are is.no_end h

-- ---- the commands of pages

skip_first : {A : Type 0} (a b c : Bool) (x y : A) → a ≡ false → (if a && b && c then x else y) ≡ y
skip_first true b c x y e = cc
skip_first false b c x y e = refl

skip_end : {A : Type 0} (a c : Bool) (x y : A) → (if a && false && c then x else y) ≡ y
skip_end true c x y = refl
skip_end false c x y = refl

skip_last : {A : Type 0} (a b c : Bool) (x y : A) → c ≡ false → (if a && b && c then x else y) ≡ y
skip_last true true c x y e = rw e refl
skip_last true false c x y e = refl
skip_last false b c x y e = refl

take_it : {A : Type 0} (a b c : Bool) (x y : A) → a ≡ true → b ≡ false → c ≡ true → (if a && not b && c then x else y) ≡ x
take_it a b c x y e f g = rw (e, f, g) refl

closed_off : (r : Reading) → is_page_open r ≡ false → is_page (context_after r) ≡ false
closed_off [] h = refl
closed_off (p ∷ before) h = elim (cases_Bool (is_post_read (p ∷ before))) [
  | inl read ↦ rw read refl
  | inr unread ↦ rw (unread, h) refl
]

open_on : (r : Reading) → is_post_read r ≡ false → is_page_open r ≡ true → is_page (context_after r) ≡ true
open_on [] p h = cc
open_on (q ∷ before) p h = rw (p, h) refl

-- where no page is open a command is on none
pub off_page : (i : ℕ) (p : Placed) (r : Reading) → is_page_open r ≡ false → page_commands i (p ∷ r) ≡ page_commands i r
off_page i p r h = skip_first _ _ _ _ _ (closed_off r h)

-- nor is the end of a page
pub end_off_page : (i at : ℕ) (bytes : List ℕ) (r : Reading) → page_commands i (placed at Eop bytes ∷ r) ≡ page_commands i r
end_off_page i at bytes r = skip_end (is_page (context_after r)) _ _ _

module _ (q : Preamble) (n : ℕ) (back : ℤ) where
  -- the commands of another page stay
  pub others_stay : (i : ℕ) (body : List ℕ) (before : Reading) → IsPageText body → i < n → Stands q false true (suc n) back before → page_commands i (after_text before body) ≡ page_commands i before
  others_stay i body before is lt h =
      (walk (λ r. Stands q false true (suc n) back r × (page_commands i r ≡ page_commands i before))
      (λ r c prefix p s a e. (
        plain_more q false true (suc n) back r c prefix (plain c prefix s a e) p.0 s,
        skip_last (is_page (context_after r)) (not (is_eop c)) (pages_begun r == suc i) (page_commands i r ++ placed (end_of r) c prefix ∷ []) (page_commands i r) (ne_eqb (pages_begun r) (suc i) (λ same. omega (arith, p.0.begun, lt, same))) ∙ p.1,
      ))
      is.commands body before is.are is.no_end (h, refl)).1

  -- those of this one are added
  pub own_added : (body : List ℕ) (before : Reading) → IsPageText body → Stands q false true (suc n) back before
      → page_commands n (after_text before body) ≡ page_commands n before ++ placed_from (end_of before) body
  own_added body before is h = by is.commands body before is.are is.no_end h
    where
      by : (commands : List DviCommand) (body : List ℕ) (before : Reading) → AreCommands context.Page commands body → AllByRecursion (λ c. is_eop c ≡ false) commands → Stands q false true (suc n) back before
          → page_commands n (after_text before body) ≡ page_commands n before ++ placed_from (end_of before) body
      by [] body before are ends h =
          ap (λ b. page_commands n (after_text before b)) are ∙ ap (page_commands n) (text_none before)
          ∙ sym (append-nil (page_commands n before)) ∙ ap (λ t. page_commands n before ++ t) (sym (placed_none (end_of before)))
          ∙ ap (λ b. page_commands n before ++ placed_from (end_of before) b) (sym are)
      by (c ∷ commands) body before are ends h =
          let prefix = are.0 in
          let rest = are.1 in
          let it = placed (end_of before) c prefix in
          let next = plain_more q false true (suc n) back before c prefix (plain c prefix are.2.spelled are.2.allowed ends.0) h are.2.spelled in
          ap (λ b. page_commands n (after_text before b)) are.2.whole
          ∙ ap (page_commands n) (text_more before c prefix rest are.2.spelled)
          ∙ by commands rest (with before c prefix) are.3 ends.1 next
          ∙ ap (λ t. t ++ placed_from (end_of before + length prefix) rest) (take_it (is_page (context_after before)) (is_eop c) (pages_begun before == suc n) (page_commands n before ++ it ∷ []) (page_commands n before) (open_on before h.post_is h.open_is) ends.0 (eq-eqb _ _ h.begun))
          ∙ append_assoc (page_commands n before) (it ∷ []) (placed_from (end_of before + length prefix) rest)
          ∙ ap (λ t. page_commands n before ++ t) (sym (placed_first (end_of before) c prefix rest are.2.spelled))
          ∙ ap (λ b. page_commands n before ++ placed_from (end_of before) b) (sym are.2.whole)

-- ---- fonts

pub commands_are : (commands : List DviCommand) (body : List ℕ) → AreCommands context.Page commands body → commands_of body ≡ commands
commands_are [] body are = ap commands_of are ∙ commands_none
commands_are (c ∷ commands) body are =
    ap commands_of are.2.whole ∙ commands_first c are.0 are.1 are.2.spelled ∙ ap (λ cs. c ∷ cs) (commands_are commands are.1 are.3)

none_after : (k : ℤ) (c : DviCommand) (o : Option FontKey) → key_or None k c ≡ None → o ≡ None → key_or o k c ≡ None
none_after k c o h none = ap (λ x. key_or x k c) none ∙ h

-- commands that define nothing leave a font number without a key
pub nothing_defined : (k : ℤ) (body : List ℕ) (before : Reading) → IsPageText body → NeverDefines k body → font_table before k ≡ None → font_table (after_text before body) k ≡ None
nothing_defined k body before is never none = by is.commands body before is.are (subst (AllByRecursion (λ c. key_or None k c ≡ None)) (commands_are is.commands body is.are) never) none
  where
    by : (commands : List DviCommand) (body : List ℕ) (before : Reading) → AreCommands context.Page commands body → AllByRecursion (λ c. key_or None k c ≡ None) commands → font_table before k ≡ None
        → font_table (after_text before body) k ≡ None
    by [] body before are never none = ap (λ b. font_table (after_text before b) k) are ∙ ap (λ r. font_table r k) (text_none before) ∙ none
    by (c ∷ commands) body before are never none =
        ap (λ b. font_table (after_text before b) k) are.2.whole ∙ ap (λ r. font_table r k) (text_more before c are.0 are.1 are.2.spelled)
        ∙ by commands are.1 (with before c are.0) are.3 never.1 (none_after k c (font_table before k) never.0 none)
