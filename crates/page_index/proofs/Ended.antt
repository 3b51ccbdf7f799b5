-- A document that was read to its end.
use Rattle.std.proofs.Common.{◌≡◌, ℕ, ℤ, ◌+◌, ◌-◌, ◌<◌, ◌≤◌, inr, true, false, List, [], ◌∷◌, ◌++◌, length, take, drop, refl, sym, ap, subst, ◌∙◌, arith, Some, None, length-take, length-drop, length-append}
use Rattle.std.specs.Prelude.{get_or, reverse, slice_index, slice_range, IsTrue}
use Rattle.std.proofs.lemmas.Option.{slice_get-get_or}
use Rattle.std.specs.Option.{option_map}
use Rattle.std.proofs.lemmas.List.{reverse-append, reverse-reverse, take_at}
use Rattle.pixel_round.specs.Pixels.{Fraction}
use Rattle.pixel_round.specs.declared.units.Units.{Units}
use Rattle.dvi_commands.specs.Spelling.{DviCommand, PostPost, Spells}
use Rattle.dvi_commands.specs.Refusal.{may_stand}
use Rattle.dvi_commands.specs.Reading.{Placed, Reads, placed_from}
use Rattle.dvi_commands.specs.declared.command.Context.{Context}
use Rattle.dvi_commands.specs.declared.command.Context.TheVariants as context
use Rattle.page_index.specs.Judged.{tail_fault}
use Rattle.page_index.specs.Limits.{MAX_DOCUMENT_LENGTH}
use Rattle.page_index.specs.Document.{IsDocument, Reading, Sound, context_after, end_of, is_ended, is_post_read, is_postpost, pages_begun, text_of, units_of}
use Rattle.page_index.specs.Faults.{FaultAfterCommand, FaultAfter, IsFirstFault}
use Rattle.page_index.specs.Fonts.{Fonts}
use Rattle.page_index.specs.Pages.{Indexed, eop_at, is_page, page_commands, reading_to}
use Rattle.page_index.specs.Walked.{IsIndex, IsReadTo, IsScaled, IsSpan, Runs, one_if}
use Rattle.page_index.specs.declared.faults.DocFault.{DocFault}
use Rattle.page_index.specs.declared.preamble.Scaled.{Scaled}
use Rattle.page_index.specs.declared.progress.Progress.{Progress}
use Rattle.page_index.specs.declared.progress.PageSpan.{PageSpan}
use Rattle.page_index.proofs.Contexts.{SaysOf, after_post, says_of}
use Rattle.page_index.proofs.Filler.{filler_is, tail_right}
use Rattle.page_index.proofs.FontKeys.{fonts_fit}
use Rattle.page_index.proofs.Runs.{runs_more, runs_placed, runs_read}

-- ---- a reading is the commands of its text

pub text_length : (res : ℕ) (r : Reading) → Sound res r → length (text_of r) ≡ end_of r
text_length res [] s = refl
text_length res (p ∷ before) s = length-append (text_of before) p.bytes ∙ omega (arith, text_length res before s.0, s.1.place)

reversed : (p : Placed) (before : Reading) → reverse (p ∷ before) ≡ reverse before ++ p ∷ []
reversed p before = reverse-append (p ∷ []) before

all_run : (res : ℕ) (r : Reading) → Sound res r → Runs 0 (reverse r) (text_of r)
all_run res [] s = refl
all_run res (p ∷ before) s =
    let place : p.at ≡ 0 + length (text_of before) = omega (arith, s.1.place, text_length res before s.0) in
    subst (λ (cs : List Placed). Runs 0 cs (text_of before ++ p.bytes)) (sym (reversed p before)) (runs_more 0 (reverse before) (text_of before) p (all_run res before s.0) place s.1.spelled)

pub reading_is : (res : ℕ) (bytes rest : List ℕ) (r : Reading) (end : ℕ) → Sound res r → text_of r ++ rest ≡ bytes → end ≡ end_of r → reading_to bytes end ≡ r
reading_is res bytes rest r end s text at =
    let prefix : take end bytes ≡ text_of r = ap (take end) (sym text) ∙ take_at (text_of r) rest end (text_length res r s ∙ sym at) in
    ap (λ (t : List ℕ). reverse (placed_from 0 t)) prefix ∙ ap reverse (runs_placed 0 (reverse r) (text_of r) (all_run res r s)) ∙ reverse-reverse r

-- no page is open after PostPost
its_parts : (c : DviCommand) → is_postpost c ≡ true → (x : ℤ) × (id : ℕ) × (c ≡ PostPost x id)
its_parts (PostPost x id) e = (x, id, refl)
its_parts _ e = cc

pub post_is_read : (res : ℕ) (r : Reading) → Sound res r → is_ended r ≡ true → is_post_read r ≡ true
post_is_read res [] s e = cc
post_is_read res (q ∷ before) s e =
    let c = its_parts q.command e in
    let spelled : Spells (PostPost c.0 c.1) q.bytes = subst (λ (x : DviCommand). Spells x q.bytes) c.2 s.1.spelled in
    let op : slice_index q.bytes 0 ≡ 249 = ap (λ (t : List ℕ). slice_index t 0) spelled.2 in
    let place : context_after before ≡ context.Post = after_post (context_after before) (subst (λ (n : ℕ). IsTrue (may_stand (context_after before) n)) op s.1.allowed) in
    let says : SaysOf context.Post before = subst (λ (x : Context). SaysOf x before) place (says_of before) in
    rw (c.2, says) refl

off_page : (res : ℕ) (r : Reading) → Sound res r → is_ended r ≡ true → is_page (context_after r) ≡ false
off_page res [] s e = cc
off_page res (q ∷ before) s e = rw (post_is_read res (q ∷ before) s e) refl

-- ---- the end

module _ (bytes : List ℕ) (s : Scaled) (p : Progress) (pages : List PageSpan) (fonts : Fonts) (w : IsReadTo bytes s p pages fonts) (ended : p.is_ended ≡ true) where
  ended_so : is_ended w.reading ≡ true
  ended_so = sym w.follows.ended ∙ ended

  -- something is wrong after PostPost
  pub tail_is_fault : (g : DocFault) → tail_fault p.at (drop p.at bytes) ≡ Some g → IsFirstFault s.units.res bytes g
  tail_is_fault g h = inr (w.fits, w.reading, drop p.at bytes, w.sound, sym w.text, after w.reading ended_so (ap (λ (n : ℕ). tail_fault n (drop p.at bytes)) (sym w.follows.at) ∙ h))
    where
      after_command : (reading : Reading) (c : DviCommand) → is_postpost c ≡ true → tail_fault (end_of reading) (drop p.at bytes) ≡ Some g → FaultAfterCommand s.units.res reading c (drop p.at bytes) g
      after_command reading (PostPost q id) e h = h
      after_command reading _ e h = cc

      after : (reading : Reading) → is_ended reading ≡ true → tail_fault (end_of reading) (drop p.at bytes) ≡ Some g → FaultAfter s.units.res reading (drop p.at bytes) g
      after [] e h = cc
      after (q ∷ before) e h = after_command (q ∷ before) q.command e h

  pub document : tail_fault p.at (drop p.at bytes) ≡ None → IsDocument s.units.res bytes w.reading
  document h =
      let fill = tail_right p.at (drop p.at bytes) h in
      record {
        fits = w.fits;
        sound = w.sound;
        ended = ended_so;
        filler = length (drop p.at bytes);
        filled = fill.1;
        whole = sym w.text ∙ ap (λ (t : List ℕ). text_of w.reading ++ t) (filler_is (drop p.at bytes) fill.0);
      }

  same_units : s.units ≡ units_of s.units.res w.preamble.preamble
  same_units =
      let k : IsScaled s w.preamble.preamble.num w.preamble.preamble.den w.preamble.preamble.mag = w.preamble.scaled in
      rw (k.num_is, k.den_is, k.mag_is) refl

  pub reading_there : reading_to bytes p.at ≡ w.reading
  reading_there = reading_is s.units.res bytes (drop p.at bytes) w.reading p.at w.sound w.text w.follows.at

  pub index : IsIndex bytes s.units s.conv (reading_to bytes p.at) pages fonts
  index =
      let none : one_if (is_page p.context) ≡ 0 = ap one_if (ap is_page w.follows.stands ∙ off_page s.units.res w.reading w.sound ended_so) in
      subst (λ (r : Reading). IsIndex bytes s.units s.conv r pages fonts) (sym reading_there) (record {
        fits = w.fits;
        count = omega (arith, w.follows.count, w.follows.begun, none);
        few = omega (arith, w.follows.count, w.follows.few);
        spans = w.follows.spans;
        keys = w.follows.keys;
        fonts_fit = fonts_fit s.units.res w.reading w.sound;
        of_preamble = ap (option_map (units_of s.units.res)) w.preamble.is ∙ ap Some (sym same_units);
        units_fit = w.preamble.scaled.units;
        converts = w.preamble.scaled.converts;
      })

-- ---- the commands of a page

pub span_of : (bytes : List ℕ) (units : Units) (conv : Fraction) (end : ℕ) (pages : List PageSpan) (fonts : Fonts) (seen : Indexed) (i : ℕ) (s : PageSpan)
    → IsIndex bytes units conv (reading_to bytes end) pages fonts → record { res = units.res; reading = reading_to bytes end } ≡ seen → i < pages_begun seen.reading → s ≡ get_or pages i s
    → IsSpan bytes seen.reading i s
span_of bytes units conv end pages fonts seen i s is same h e =
    let reading : reading_to bytes end ≡ seen.reading = ap (λ (x : Indexed). x.reading) same in
    let inside : i < length pages = omega (arith, h, is.count, ap pages_begun reading) in
    subst (λ (r : Reading). IsSpan bytes r i s) reading (is.spans i s (slice_get-get_or pages i s inside ∙ ap Some (sym e)))

module _ (bytes : List ℕ) (r : Reading) (i : ℕ) (s : PageSpan) (is : IsSpan bytes r i s) where
  abbrev text : List ℕ
  text = slice_range bytes s.start s.end

  module _ (at : ℕ) (part : List ℕ) (place : at ≡ s.start) (same : part ≡ text) where
    pub page_is : placed_from at part ≡ page_commands i r
    page_is = ap (placed_from at) same ∙ ap (λ (n : ℕ). placed_from n text) place ∙ runs_placed s.start (page_commands i r) text is.fills.runs

    pub page_reads : Reads context.Page part
    page_reads = subst (Reads context.Page) (sym same) (runs_read s.start (page_commands i r) text is.fills.runs is.fills.allowed)

    pub page_within : length bytes ≤ MAX_DOCUMENT_LENGTH → at + length part ≤ MAX_DOCUMENT_LENGTH
    page_within fits =
        let size : length text ≡ s.end - s.start = grind (arith, length-take, length-drop, is.fills.inside) in
        omega (arith, size, is.fills.order, is.fills.inside, fits, place, ap length same)

    pub page_ends : eop_at i r ≡ Some (at + length part)
    page_ends =
        let size : length text ≡ s.end - s.start = grind (arith, length-take, length-drop, is.fills.inside) in
        let end : s.end ≡ at + length part = omega (arith, size, is.fills.order, place, ap length same) in
        is.ends ∙ ap Some end
