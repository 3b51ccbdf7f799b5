-- What is kept of a reading, one command more.
use Rattle.std.proofs.Common.{◌≡◌, ℕ, suc, ◌+◌, ◌-◌, ◌<◌, ◌≤◌, inl, inr, ℤ, pos, Bool, true, false, List, [], ◌∷◌, ◌++◌, length, refl, sym, ap, subst, ◌∙◌, arith, eqb-true, Some, None, length-take, length-drop, length-append}
use Rattle.std.specs.Prelude.{slice_index, slice_range, IsTrue, ◌==◌, if◌then◌else◌}
use Rattle.std.specs.FinMap.{get}
use Rattle.dvi_commands.specs.Spelling.{DviCommand, Preamble, Postamble, Pre, Bop, Eop, Post, PostPost, Define, Spells}
use Rattle.dvi_commands.specs.Refusal.{may_stand}
use Rattle.dvi_commands.specs.Reading.{Placed}
use Rattle.dvi_commands.specs.declared.command.Context.{Context}
use Rattle.dvi_commands.specs.declared.command.Context.TheVariants as context
use Rattle.page_index.specs.Judged.{define_fault}
use Rattle.page_index.specs.Limits.{MAX_PAGES}
use Rattle.page_index.specs.Document.{Reading, context_after, font_table, is_bop, is_eop, is_ended, is_post, is_page_open, is_postpost, key_or, last_bop, pages_begun}
use Rattle.page_index.specs.Fonts.{Fonts}
use Rattle.page_index.specs.Pages.{is_on_page, is_page, page_commands}
use Rattle.page_index.specs.Walked.{AreOnPage, AreSpans, FillSpan, Follows, IsSpan, Runs, fonts_after, one_if, pages_after, progress_after}
use Rattle.page_index.specs.declared.progress.Progress.{Progress}
use Rattle.page_index.specs.declared.progress.PageSpan.{PageSpan}
use Rattle.page_index.proofs.Contexts.{at_start, between_pages, on_page, after_pages, after_post, SaysOf, says_of, context_next, pre_by_opcode, is_pre}
use Rattle.page_index.proofs.Keys.{keys_more}
use Rattle.page_index.proofs.Spans.{fills_more, get_push, no_span, none_yet, spans_stay}

module _ (bytes : List ℕ) (p : Progress) (pages : List PageSpan) (fonts : Fonts) (r : Reading) (q : Placed) (next : ℕ)
    (f : Follows bytes p pages fonts r) (place : q.at ≡ p.at) (lie : q.bytes ≡ slice_range bytes p.at next) (some : p.at < next) (within : next ≤ length bytes)
    (spelled : Spells q.command q.bytes) (allowed : IsTrue (may_stand (context_after r) (slice_index q.bytes 0)))
    (going : is_ended r ≡ false) (begun : r ≡ [] → ⊥) where
  long : length q.bytes ≡ next - p.at
  long = ap length lie ∙ grind (arith, length-take, length-drop)

  end_is : next ≡ q.at + length q.bytes
  end_is = omega (arith, place, long)

  first : (op : ℕ) (rest : List ℕ) → q.bytes ≡ op ∷ rest → slice_index q.bytes 0 ≡ op
  first op rest e = ap (λ (b : List ℕ). slice_index b 0) e

  opcode : (n : ℕ) → slice_index q.bytes 0 ≡ n → IsTrue (may_stand (context_after r) n)
  opcode n e = subst (λ (k : ℕ). IsTrue (may_stand (context_after r) k)) e allowed

  says : (place : Context) → context_after r ≡ place → SaysOf place r
  says place e = subst (λ (c : Context). SaysOf c r) e (says_of r)

  here_is : {place : Context} → context_after r ≡ place → p.context ≡ place
  here_is e = f.stands ∙ e

  on_eop : (c : DviCommand) → q.command ≡ c → is_eop c ≡ true → context_after r ≡ context.Page
  on_eop Eop e h =
      let spelled_so : Spells Eop q.bytes = subst (λ (c : DviCommand). Spells c q.bytes) e spelled in
      on_page (context_after r) (opcode 140 (first 140 [] spelled_so.2))
  on_eop _ e h = cc

  ends_on_page : is_eop q.command ≡ true → is_page (context_after r) ≡ true
  ends_on_page h = ap is_page (on_eop q.command refl h)

  whole_pages : is_page (context_after r) ≡ true → pages_begun r ≡ suc (length pages)
  whole_pages on =
      let here : one_if (is_page p.context) ≡ 1 = ap one_if (ap is_page f.stands ∙ on) in
      omega (arith, f.begun, f.count, here)

  off_pages : is_page (context_after r) ≡ false → pages_begun r ≡ length pages
  off_pages off =
      let here : one_if (is_page p.context) ≡ 0 = ap one_if (ap is_page f.stands ∙ off) in
      omega (arith, f.begun, f.count, here)

  same_spans : AreSpans bytes (q ∷ r) pages
  same_spans = spans_stay r q (length pages) whole_pages ends_on_page bytes pages refl f.spans

  -- the page that is open, with a command more
  page_grows : is_page (context_after r) ≡ true → is_eop q.command ≡ false → page_commands (length pages) (q ∷ r) ≡ page_commands (length pages) r ++ q ∷ []
  page_grows here other =
      let this : (pages_begun r == suc (length pages)) ≡ true = ap (λ (n : ℕ). n == suc (length pages)) (whole_pages here) ∙ same (length pages) in
      rw (here, other, this) refl
    where
      same : (n : ℕ) → (suc n == suc n) ≡ true
      same n = grind arith

  now_fills : context_after r ≡ context.Page → is_eop q.command ≡ false → FillSpan bytes (page_commands (length pages) (q ∷ r)) p.start next
  now_fills here other =
      let on : is_page (context_after r) ≡ true = ap is_page here in
      let old : FillSpan bytes (page_commands (length pages) r) p.start p.at = f.current (ap is_page f.stands ∙ on) in
      let fits : IsTrue (may_stand context.Page (slice_index q.bytes 0)) = subst (λ (c : Context). IsTrue (may_stand c (slice_index q.bytes 0))) here allowed in
      subst (λ (cs : List Placed). FillSpan bytes cs p.start next) (sym (page_grows on other)) (fills_more bytes (page_commands (length pages) r) p.start p.at next q old place lie some within spelled fits)

  -- a command that is neither part of the frame nor a page's end
  module _ (not_bop : is_bop q.command ≡ false) (not_eop : is_eop q.command ≡ false) (not_post : is_post q.command ≡ false) (not_postpost : is_postpost q.command ≡ false)
      (not_pre : is_pre q.command ≡ false) (table : Fonts) (keys : (k : ℤ) → get table k ≡ font_table (q ∷ r) k) where
    same_context : (here : Context) → SaysOf here r → IsTrue (may_stand here (slice_index q.bytes 0)) → here ≡ context_after (q ∷ r)
    same_context context.Start s h =
        let op : slice_index q.bytes 0 ≡ 247 = eqb-true (slice_index q.bytes 0) 247 h in
        let bad : true ≡ false = sym (pre_by_opcode q.command q.bytes spelled op) ∙ not_pre in
        cc
    same_context context.Between s h = context_next q r false false (rw (not_post, s.0) refl) (rw (not_bop, not_eop, s.1) refl)
    same_context context.Page s h = context_next q r false true (rw (not_post, s.0) refl) (rw (not_bop, not_eop, s.1) refl)
    same_context context.Packet s h = absurd s
    same_context context.Post s h = context_next q r true (is_page_open (q ∷ r)) (rw (not_post, s) refl) refl

    fills_there : (here : Context) → context_after r ≡ here → is_page here ≡ true → FillSpan bytes (page_commands (length pages) (q ∷ r)) p.start next
    fills_there context.Page e on = now_fills e not_eop
    fills_there context.Start e on = cc
    fills_there context.Between e on = cc
    fills_there context.Packet e on = cc
    fills_there context.Post e on = cc

    pub skippable : Follows bytes (record p { at = next }) pages table (q ∷ r)
    skippable = record {
      at = end_is;
      stands = f.stands ∙ same_context (context_after r) (says_of r) allowed;
      begun = f.begun ∙ sym (ap (λ (b : Bool). if b then suc (pages_begun r) else pages_begun r) not_bop);
      few = f.few;
      bop = f.bop ∙ sym (ap (λ (b : Bool). if b then pos q.at else last_bop r) not_bop);
      post = rw not_post f.post;
      ended = f.ended ∙ going ∙ sym not_postpost;
      count = f.count;
      spans = same_spans;
      current = λ on. fills_there (context_after r) refl (sym (ap is_page f.stands) ∙ on);
      keys = keys;
    }

  -- ---- the frame

  pub follows_eop : q.command ≡ Eop → Follows bytes (progress_after p Eop next) (pages_after p pages Eop) fonts (q ∷ r)
  follows_eop e =
      let here : context_after r ≡ context.Page = on_eop q.command refl (ap is_eop e) in
      let s : SaysOf context.Page r = says context.Page here in
      let on : is_page (context_after r) ≡ true = ap is_page here in
      let one : one_if (is_page p.context) ≡ 1 = ap one_if (ap is_page f.stands ∙ on) in
      record {
        at = end_is;
        stands = context_next q r false false (rw (e, s.0) refl) (rw e refl);
        begun = rw e f.begun;
        few = f.few;
        bop = rw e f.bop;
        post = rw e f.post;
        ended = f.ended ∙ going ∙ sym (ap is_postpost e);
        count = omega (arith, f.count, one, length-append pages (last ∷ []));
        spans = last_spans on;
        current = λ h. cc;
        keys = λ k. f.keys k ∙ sym (ap (key_or (font_table r k) k) e);
      }
    where
      last : PageSpan
      last = record { start = p.start; end = p.at }

      last_spans : is_page (context_after r) ≡ true → AreSpans bytes (q ∷ r) (pages ++ last ∷ [])
      last_spans on i s found = elim (get_push pages last i s found) [
        | inl old ↦ same_spans i s old
        | inr new ↦ subst (λ (n : ℕ). IsSpan bytes (q ∷ r) n s) (sym new.0) (subst (λ (t : PageSpan). IsSpan bytes (q ∷ r) (length pages) t) new.1 (its_span on))
      ]
        where
          its_span : is_page (context_after r) ≡ true → IsSpan bytes (q ∷ r) (length pages) last
          its_span on =
              let this : (pages_begun r == suc (length pages)) ≡ true = ap (λ (n : ℕ). n == suc (length pages)) (whole_pages on) ∙ same_number (length pages) in
              let off : is_on_page (length pages) r q.command ≡ false = rw (ap is_eop e, on) refl in
              record {
                fills = subst (λ (cs : List Placed). FillSpan bytes cs p.start p.at) (sym (ap (λ (b : Bool). if b then page_commands (length pages) r ++ q ∷ [] else page_commands (length pages) r) off)) (f.current (ap is_page f.stands ∙ on));
                ends = rw (ap is_eop e, this) (ap Some place);
              }
            where
              same_number : (n : ℕ) → (suc n == suc n) ≡ true
              same_number n = grind arith

  pub follows_bop : (counts : List ℤ) (back : ℤ) → q.command ≡ Bop counts back → p.begun < MAX_PAGES → Follows bytes (progress_after p (Bop counts back) next) pages fonts (q ∷ r)
  follows_bop counts back e few =
      let spelled_so : Spells (Bop counts back) q.bytes = subst (λ (c : DviCommand). Spells c q.bytes) e spelled in
      let here : context_after r ≡ context.Between = between_pages (context_after r) (opcode 139 (first 139 _ spelled_so.2)) in
      let s : SaysOf context.Between r = says context.Between here in
      let zero_open : one_if (is_page p.context) ≡ 0 = ap one_if (ap is_page (here_is here)) in
      let off : is_on_page (length pages) r q.command ≡ false = rw here refl in
      let empty : page_commands (length pages) (q ∷ r) ≡ [] = rw off (none_yet (length pages) r (omega (arith, f.begun, f.count, zero_open))) in
      record {
        at = end_is;
        stands = context_next q r false true (rw (e, s.0) refl) (rw e refl);
        begun = rw e (ap suc f.begun);
        few = few;
        bop = rw e (ap pos (sym place));
        post = rw e f.post;
        ended = f.ended ∙ going ∙ sym (ap is_postpost e);
        count = omega (arith, f.count, zero_open);
        spans = same_spans;
        current = λ h. record {
          order = omega arith;
          inside = within;
          runs = subst (λ (cs : List Placed). Runs next cs (slice_range bytes next next)) (sym empty) (no_span bytes next);
          allowed = subst AreOnPage (sym empty) tt;
        };
        keys = λ k. f.keys k ∙ sym (ap (key_or (font_table r k) k) e);
      }

  pub follows_post : (post : Postamble) → q.command ≡ Post post → Follows bytes (progress_after p (Post post) next) pages fonts (q ∷ r)
  follows_post post e =
      let spelled_so : Spells (Post post) q.bytes = subst (λ (c : DviCommand). Spells c q.bytes) e spelled in
      let here : context_after r ≡ context.Between = after_pages (context_after r) (opcode 248 (first 248 _ spelled_so.2)) in
      let zero_open : one_if (is_page p.context) ≡ 0 = ap one_if (ap is_page (here_is here)) in
      record {
        at = end_is;
        stands = context_next q r true (is_page_open (q ∷ r)) (rw e refl) refl;
        begun = rw e f.begun;
        few = f.few;
        bop = rw e f.bop;
        post = rw e (ap Some (sym place));
        ended = f.ended ∙ going ∙ sym (ap is_postpost e);
        count = omega (arith, f.count, zero_open);
        spans = same_spans;
        current = λ h. cc;
        keys = λ k. f.keys k ∙ sym (ap (key_or (font_table r k) k) e);
      }

  pub follows_postpost : (pointer : ℤ) (id : ℕ) → q.command ≡ PostPost pointer id → Follows bytes (progress_after p (PostPost pointer id) next) pages fonts (q ∷ r)
  follows_postpost pointer id e =
      let spelled_so : Spells (PostPost pointer id) q.bytes = subst (λ (c : DviCommand). Spells c q.bytes) e spelled in
      let here : context_after r ≡ context.Post = after_post (context_after r) (opcode 249 (first 249 _ spelled_so.2)) in
      let s : SaysOf context.Post r = says context.Post here in
      record {
        at = end_is;
        stands = here_is here ∙ context_next q r true (is_page_open (q ∷ r)) (rw (e, s) refl) refl;
        begun = rw e f.begun;
        few = f.few;
        bop = rw e f.bop;
        post = rw e f.post;
        ended = sym (ap is_postpost e);
        count = f.count;
        spans = same_spans;
        current = λ h. let bad : true ≡ false = sym h ∙ ap is_page (here_is here) in cc;
        keys = λ k. f.keys k ∙ sym (ap (key_or (font_table r k) k) e);
      }

  -- ---- by the command

  not_pre : (pre : Preamble) → q.command ≡ Pre pre → ⊥
  not_pre pre e =
      let spelled_so : Spells (Pre pre) q.bytes = subst (λ (c : DviCommand). Spells c q.bytes) e spelled in
      begun (says context.Start (at_start (context_after r) (opcode 247 (first 247 _ spelled_so.2))))

  plain_keys : (c : DviCommand) → q.command ≡ c → ((k : ℤ) → key_or (font_table r k) k c ≡ font_table r k) → (k : ℤ) → get fonts k ≡ font_table (q ∷ r) k
  plain_keys c e same k = f.keys k ∙ sym (same k) ∙ sym (ap (key_or (font_table r k) k) e)

  -- nothing is wrong with it, as far as what is kept tells
  abbrev pub IsGood : DviCommand → Type 0
  IsGood (Define d) = define_fault (get fonts d.number) p.at d ≡ None
  IsGood (Bop counts back) = p.begun < MAX_PAGES
  IsGood _ = Unit {0}

  pub follows_next : (c : DviCommand) → q.command ≡ c → IsGood c → Follows bytes (progress_after p c next) (pages_after p pages c) (fonts_after fonts c) (q ∷ r)
  follows_next (Pre pre) e good = absurd (not_pre pre e)
  follows_next (Bop counts back) e good = follows_bop counts back e good
  follows_next Eop e good = follows_eop e
  follows_next (Post post) e good = follows_post post e
  follows_next (PostPost pointer id) e good = follows_postpost pointer id e
  follows_next (Define d) e good =
      skippable (ap is_bop e) (ap is_eop e) (ap is_post e) (ap is_postpost e) (ap is_pre e) (fonts_after fonts (Define d))
      (λ k. keys_more fonts r d p.at f.keys good k ∙ sym (ap (key_or (font_table r k) k) e))
  follows_next c e good = skippable (ap is_bop e) (ap is_eop e) (ap is_post e) (ap is_postpost e) (ap is_pre e) fonts (plain_keys c e (λ k. refl))
