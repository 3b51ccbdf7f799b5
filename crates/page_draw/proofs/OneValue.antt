-- A page has one value over a library.
use Rattle.std.proofs.Common.{◌≡◌, ℕ, List, [], ◌∷◌, refl, sym, ap, ap₂, subst, ◌∙◌, Option, Some, Ok, Err}
use Rattle.outside.specs.declared.keys.FontKey.{FontKey}
use Rattle.pixel_round.specs.Pixels.{conversion, Fraction}
use Rattle.pixel_round.specs.declared.units.Units.{Units}
use Rattle.drift_rules.specs.Position.{FlatCommand, State, state_after, at_origin}
use Rattle.drift_rules.specs.declared.faults.PenFault.{PenFault}
use Rattle.pk_runs.specs.declared.glyph.Glyph.{Glyph}
use Rattle.font_decode.specs.Decoding.{AreAlike, IsFontIn}
use Rattle.font_decode.specs.declared.font_or_fault.Decoded.{Decoded}
use Rattle.vf_expand.specs.Course.{Course, Gives, Asks, Lacks, Ends, Stops, course_of}
use Rattle.vf_expand.specs.Faults.{PageFaultValue, Pen}
use Rattle.page_draw.specs.Members.{Member, Flat, LookUp, Lack, Finding, Unfolds, looks_of, last_state}
use Rattle.page_draw.specs.Values.{DrawnValue, EndsIn, HasValue, PageValue, drawn_of, ended_with, fault_at}
use Rattle.page_draw.specs.declared.sheet.Sheet.{Sheet}
use Rattle.page_draw.proofs.Lists.{apart}
use Rattle.font_decode.proofs.Alike.{one_in_a_library}
use Rattle.page_draw.specs.Laws.{PagesHaveOneValue}
use Rattle.vf_expand.proofs.Similar.{Similar, course_similar}

-- the page can't go on from here: no look-up and no lack stands next, and a flat command that does
-- has no next state
abbrev pub IsAtEnd : Fraction → State → Course → Type 0
IsAtEnd c s (Gives f g at rest) = (fault : PenFault) × (state_after c s f ≡ Err fault)
IsAtEnd c s (Asks k at rest) = ⊥
IsAtEnd c s (Lacks f at rest) = ⊥
IsAtEnd c s (Ends at) = Unit {0}
IsAtEnd c s (Stops fault at) = Unit {0}

pub at_end : (c : Fraction) (s : State) (page : DrawnValue) (to : Course) (value : PageValue) → EndsIn c s page to value → IsAtEnd c s to
at_end c s page (Gives f g at rest) value ends = (ends.0, ends.1)
at_end c s page (Asks k at rest) value ends = absurd ends
at_end c s page (Lacks f at rest) value ends = absurd ends
at_end c s page (Ends at) value ends = tt
at_end c s page (Stops fault at) value ends = tt

pub moved_both : (a b x y : Course) → a ≡ x → b ≡ y → Similar a b → Similar x y
moved_both a b x y first second h = subst (λ (z : Course). Similar z y) first (subst (Similar a) second h)

-- so are two similar courses where they can't go on
pub similar_end : (c : Fraction) (s : State) (x y : Course) → Similar x y → IsAtEnd c s x → IsAtEnd c s y
similar_end c s (Gives f g at x) (Gives f2 g2 at2 y) h e = (e.0, ap (state_after c s) (sym h.0) ∙ e.1)
similar_end c s (Asks k at x) (Asks k2 at2 y) h e = absurd e
similar_end c s (Lacks f at x) (Lacks f2 at2 y) h e = absurd e
similar_end c s (Ends at) (Ends at2) h e = tt
similar_end c s (Stops f at) (Stops f2 at2) h e = tt
similar_end c s _ _ h e = absurd h

similar_end_back : (c : Fraction) (s : State) (x y : Course) → Similar x y → IsAtEnd c s y → IsAtEnd c s x
similar_end_back c s (Gives f g at x) (Gives f2 g2 at2 y) h e = (e.0, ap (state_after c s) h.0 ∙ e.1)
similar_end_back c s (Asks k at x) (Asks k2 at2 y) h e = absurd e
similar_end_back c s (Lacks f at x) (Lacks f2 at2 y) h e = absurd e
similar_end_back c s (Ends at) (Ends at2) h e = tt
similar_end_back c s (Stops f at) (Stops f2 at2) h e = tt
similar_end_back c s _ _ h e = absurd h

-- a flat command that has a next state doesn't end the page
pub goes_on : (c : Fraction) (s u : State) (f : FlatCommand) (g : Option Glyph) (at : ℕ) (rest : Course) → state_after c s f ≡ Ok u → IsAtEnd c s (Gives f g at rest) → ⊥
goes_on c s u f g at rest moved ends = let bad : Ok u ≡ Err ends.0 = sym moved ∙ ends.1 in absurd cc

pub same_flat : (f f2 : FlatCommand) (g g2 : Option Glyph) (at at2 : ℕ) (ms ns : List Member) → f ≡ f2 → g ≡ g2 → at ≡ at2 → ms ≡ ns
    → Flat f g at ∷ ms ≡ Flat f2 g2 at2 ∷ ns
same_flat f f2 g g2 at at2 ms ns a b d e = cc

pub same_look : (k k2 : FontKey) (at at2 : ℕ) (ms ns : List Member) → k ≡ k2 → at ≡ at2 → ms ≡ ns → LookUp k at ∷ ms ≡ LookUp k2 at2 ∷ ns
same_look k k2 at at2 ms ns a b e = cc

pub same_lack : (f f2 : PageFaultValue) (at at2 : ℕ) (ms ns : List Member) → f ≡ f2 → at ≡ at2 → ms ≡ ns → Lack f at ∷ ms ≡ Lack f2 at2 ∷ ns
same_lack f f2 at at2 ms ns a b e = cc

module _ (Finds : Finding) (c : Fraction) (alike : (k : FontKey) (d e : Decoded) → Finds k d → Finds k e → AreAlike d e) where
  -- lists of similar courses lead through the same members to similar ends
  same_members : (from from' : Course) (s : State) (ms ns : List Member) (to to' : Course) (t t' : State) → Similar from from' → Unfolds Finds from ms to → Unfolds Finds from' ns to'
      → last_state c s ms ≡ Ok t → last_state c s ns ≡ Ok t' → IsAtEnd c t to → IsAtEnd c t' to' → (ms ≡ ns) × Similar to to'
  same_members from from' s [] [] to to' t t' similar first second moved moved' ends ends' = (refl, moved_both from from' to to' first second similar)
  same_members from from' s [] (Flat f g at ∷ ns) to to' t t' similar first second moved moved' ends ends' =
      let there = apart c (state_after c s f) ns t' moved' in
      let here : t ≡ s = cc in
      let next = moved_both from from' to (Gives f g at second.0) first second.1 similar in
      absurd (goes_on c s there.0 f g at second.0 there.1 (similar_end c s to (Gives f g at second.0) next (subst (λ (x : State). IsAtEnd c x to) here ends)))
  same_members from from' s [] (LookUp k at ∷ ns) to to' t t' similar first second moved moved' ends ends' =
      absurd (similar_end c t to (Asks k at second.0) (moved_both from from' to (Asks k at second.0) first second.2 similar) ends)
  same_members from from' s [] (Lack f at ∷ ns) to to' t t' similar first second moved moved' ends ends' =
      absurd (similar_end c t to (Lacks f at second.0) (moved_both from from' to (Lacks f at second.0) first second.1 similar) ends)
  same_members from from' s (Flat f g at ∷ ms) [] to to' t t' similar first second moved moved' ends ends' =
      let there = apart c (state_after c s f) ms t moved in
      let here : t' ≡ s = cc in
      let next = moved_both from from' (Gives f g at first.0) to' first.1 second similar in
      absurd (goes_on c s there.0 f g at first.0 there.1 (similar_end_back c s (Gives f g at first.0) to' next (subst (λ (x : State). IsAtEnd c x to') here ends')))
  same_members from from' s (LookUp k at ∷ ms) [] to to' t t' similar first second moved moved' ends ends' =
      absurd (similar_end_back c t' (Asks k at first.0) to' (moved_both from from' (Asks k at first.0) to' first.2 second similar) ends')
  same_members from from' s (Lack f at ∷ ms) [] to to' t t' similar first second moved moved' ends ends' =
      absurd (similar_end_back c t' (Lacks f at first.0) to' (moved_both from from' (Lacks f at first.0) to' first.1 second similar) ends')
  same_members from from' s (Flat f g at ∷ ms) (Lack f' at' ∷ ns) to to' t t' similar first second moved moved' ends ends' =
      absurd (moved_both from from' (Gives f g at first.0) (Lacks f' at' second.0) first.1 second.1 similar)
  same_members from from' s (LookUp k at ∷ ms) (Lack f' at' ∷ ns) to to' t t' similar first second moved moved' ends ends' =
      absurd (moved_both from from' (Asks k at first.0) (Lacks f' at' second.0) first.2 second.1 similar)
  same_members from from' s (Lack f at ∷ ms) (Flat f' g' at' ∷ ns) to to' t t' similar first second moved moved' ends ends' =
      absurd (moved_both from from' (Lacks f at first.0) (Gives f' g' at' second.0) first.1 second.1 similar)
  same_members from from' s (Lack f at ∷ ms) (LookUp k at' ∷ ns) to to' t t' similar first second moved moved' ends ends' =
      absurd (moved_both from from' (Lacks f at first.0) (Asks k at' second.0) first.1 second.2 similar)
  same_members from from' s (Lack f at ∷ ms) (Lack f' at' ∷ ns) to to' t t' similar first second moved moved' ends ends' =
      let next = moved_both from from' (Lacks f at first.0) (Lacks f' at' second.0) first.1 second.1 similar in
      let others = same_members first.0 second.0 s ms ns to to' t t' next.2 first.2 second.2 moved moved' ends ends' in
      (same_lack f f' at at' ms ns next.0 next.1 others.0, others.1)
  same_members from from' s (Flat f g at ∷ ms) (LookUp k at' ∷ ns) to to' t t' similar first second moved moved' ends ends' =
      absurd (moved_both from from' (Gives f g at first.0) (Asks k at' second.0) first.1 second.2 similar)
  same_members from from' s (LookUp k at ∷ ms) (Flat f g at' ∷ ns) to to' t t' similar first second moved moved' ends ends' =
      absurd (moved_both from from' (Asks k at first.0) (Gives f g at' second.0) first.2 second.1 similar)
  same_members from from' s (Flat f g at ∷ ms) (Flat f' g' at' ∷ ns) to to' t t' similar first second moved moved' ends ends' =
      let next = moved_both from from' (Gives f g at first.0) (Gives f' g' at' second.0) first.1 second.1 similar in
      let there = apart c (state_after c s f) ms t moved in
      let there' = apart c (state_after c s f') ns t' moved' in
      let state : Ok there.0 ≡ Ok there'.0 = sym there.1 ∙ ap (λ (x : FlatCommand). state_after c s x) next.0 ∙ there'.1 in
      let states : there'.0 ≡ there.0 = cc in
      let others = same_members first.0 second.0 there.0 ms ns to to' t t' next.3 first.2 second.2
      there.2 (subst (λ (x : State). last_state c x ns ≡ Ok t') states there'.2) ends ends' in
      (same_flat f f' g g' at at' ms ns next.0 next.1 next.2 others.0, others.1)
  same_members from from' s (LookUp k at ∷ ms) (LookUp k' at' ∷ ns) to to' t t' similar first second moved moved' ends ends' =
      let next = moved_both from from' (Asks k at first.0) (Asks k' at' second.0) first.2 second.2 similar in
      let found : Finds k second.1 = subst (λ (x : FontKey). Finds x second.1) (sym next.0) second.3 in
      let rests = next.2 first.1 second.1 (alike k first.1 second.1 first.3 found) in
      let others = same_members (first.0 first.1) (second.0 second.1) s ms ns to to' t t' rests first.4 second.4 moved moved' ends ends' in
      (same_look k k' at at' ms ns next.0 next.1 others.0, others.1)

  -- so a course has one value, and one list of look-ups
  ends_once : (s : State) (page : DrawnValue) (to to' : Course) (v w : PageValue) → Similar to to' → EndsIn c s page to v → EndsIn c s page to' w → v ≡ w
  ends_once s page (Gives f g at x) (Gives f2 g2 at2 y) v w h first second =
      let faults : Err first.0 ≡ Err second.0 = sym first.1 ∙ ap (λ (x : FlatCommand). state_after c s x) h.0 ∙ second.1 in
      let same : first.0 ≡ second.0 = cc in
      first.2 ∙ ap₂ (λ (fault : PenFault) (place : ℕ). fault_at (Pen fault) place) same h.2 ∙ sym second.2
  ends_once s page (Asks k at x) (Asks k2 at2 y) v w h first second = absurd first
  ends_once s page (Lacks f at x) (Lacks f2 at2 y) v w h first second = absurd first
  ends_once s page (Ends at) (Ends at2) v w h first second = first ∙ ap (λ (place : ℕ). ended_with s.saved place page) h ∙ sym second
  ends_once s page (Stops fault at) (Stops fault2 at2) v w h first second = first ∙ ap₂ fault_at h.0 h.1 ∙ sym second
  ends_once s page _ _ v w h first second = absurd h

  pub one_value : (sheet : Sheet) (from : Course) (v w : PageValue) (looks others : List FontKey) → Similar from from → HasValue Finds c sheet from v looks
      → HasValue Finds c sheet from w others → (v ≡ w) × (looks ≡ others)
  one_value sheet from v w looks others similar first second =
      let same = same_members from from at_origin first.members second.members first.to second.to first.state second.state similar first.leads second.leads
      first.moved second.moved (at_end c _ _ _ v first.ends) (at_end c _ _ _ w second.ends) in
      let states : Ok first.state ≡ Ok second.state = sym first.moved ∙ ap (last_state c at_origin) same.0 ∙ second.moved in
      let state : second.state ≡ first.state = cc in
      let ends : EndsIn c first.state (drawn_of c sheet first.members) second.to w =
      subst (λ (x : State). EndsIn c x (drawn_of c sheet first.members) second.to w) state
      (subst (λ (ms : List Member). EndsIn c second.state (drawn_of c sheet ms) second.to w) (sym same.0) second.ends) in
      (ends_once first.state (drawn_of c sheet first.members) first.to second.to v w same.1 first.ends ends, first.looked ∙ ap looks_of same.0 ∙ sym second.looked)

-- of a page of an index
pub pages_have_one_value : PagesHaveOneValue
pages_have_one_value l u indexed sheet i v w looks others first second =
    let units : Some second.units ≡ Some first.units = sym second.of_document ∙ first.of_document in
    let same : second.units ≡ first.units = cc in
    one_value (IsFontIn l u) (conversion first.units) (λ k d e a b. one_in_a_library l u k d e a b) sheet (course_of sheet.tolerant indexed.reading i) v w looks others
    (course_similar sheet.tolerant indexed.reading i) first.has (subst (λ (x : Units). HasValue (IsFontIn l u) (conversion x) sheet (course_of sheet.tolerant indexed.reading i) w others) same second.has)
