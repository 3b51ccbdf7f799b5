-- What was followed of a page that was broken off is the beginning of what leads to its value.
use Rattle.std.proofs.Common.{◌≡◌, ℕ, List, [], ◌∷◌, ◌++◌, ◌⊎◌, inl, inr, refl, sym, ap, subst, ◌∙◌, append_assoc, Option, Some, Ok}
use Rattle.outside.specs.declared.keys.FontKey.{FontKey}
use Rattle.pixel_round.specs.Pixels.{conversion, Fraction}
use Rattle.pixel_round.specs.declared.units.Units.{Units}
use Rattle.drift_rules.specs.Position.{FlatCommand, State, state_after, at_origin}
use Rattle.font_decode.specs.Decoding.{AreAlike, IsFontIn}
use Rattle.font_decode.specs.Desks.{GrewBy}
use Rattle.font_decode.specs.declared.font_or_fault.Decoded.{Decoded}
use Rattle.font_decode.proofs.Alike.{one_in_a_library}
use Rattle.vf_expand.specs.Course.{Course, Gives, Asks, Lacks, course_of}
use Rattle.vf_expand.proofs.Similar.{Similar, course_similar}
use Rattle.vf_expand.proofs.PageLists.{looks_append}
use Rattle.page_draw.specs.Members.{Member, Flat, LookUp, Lack, Finding, Unfolds, looks_of, last_state}
use Rattle.page_draw.specs.Laws.{BrokenPagesBegin}
use Rattle.page_draw.proofs.Lists.{apart}
use Rattle.page_draw.proofs.OneValue.{IsAtEnd, at_end, goes_on, moved_both, same_flat, same_lack, same_look, similar_end}

module _ (Finds : Finding) (c : Fraction) (alike : (k : FontKey) (d e : Decoded) → Finds k d → Finds k e → AreAlike d e) where
  -- of two lists of similar courses, one of which comes to an end, the other is the beginning
  begins : (from from' : Course) (s : State) (ms ns : List Member) (to to' : Course) (t t' : State) → Similar from from' → Unfolds Finds from ms to → Unfolds Finds from' ns to'
      → last_state c s ms ≡ Ok t → last_state c s ns ≡ Ok t' → IsAtEnd c t to
      → (more : List Member) × (ms ≡ ns ++ more) × (past : Course) × Similar past to' × Unfolds Finds past more to
  begins from from' s ms [] to to' t t' similar first second moved moved' ends = (ms, refl, from, moved_both from from' from to' refl second similar, first)
  begins from from' s [] (Flat f g at ∷ ns) to to' t t' similar first second moved moved' ends =
      let there = apart c (state_after c s f) ns t' moved' in
      let here : t ≡ s = cc in
      let next = moved_both from from' to (Gives f g at second.0) first second.1 similar in
      absurd (goes_on c s there.0 f g at second.0 there.1 (similar_end c s to (Gives f g at second.0) next (subst (λ (x : State). IsAtEnd c x to) here ends)))
  begins from from' s [] (LookUp k at ∷ ns) to to' t t' similar first second moved moved' ends =
      absurd (similar_end c t to (Asks k at second.0) (moved_both from from' to (Asks k at second.0) first second.2 similar) ends)
  begins from from' s [] (Lack f at ∷ ns) to to' t t' similar first second moved moved' ends =
      absurd (similar_end c t to (Lacks f at second.0) (moved_both from from' to (Lacks f at second.0) first second.1 similar) ends)
  begins from from' s (Flat f g at ∷ ms) (Lack f' at' ∷ ns) to to' t t' similar first second moved moved' ends =
      absurd (moved_both from from' (Gives f g at first.0) (Lacks f' at' second.0) first.1 second.1 similar)
  begins from from' s (LookUp k at ∷ ms) (Lack f' at' ∷ ns) to to' t t' similar first second moved moved' ends =
      absurd (moved_both from from' (Asks k at first.0) (Lacks f' at' second.0) first.2 second.1 similar)
  begins from from' s (Lack f at ∷ ms) (Flat f' g' at' ∷ ns) to to' t t' similar first second moved moved' ends =
      absurd (moved_both from from' (Lacks f at first.0) (Gives f' g' at' second.0) first.1 second.1 similar)
  begins from from' s (Lack f at ∷ ms) (LookUp k at' ∷ ns) to to' t t' similar first second moved moved' ends =
      absurd (moved_both from from' (Lacks f at first.0) (Asks k at' second.0) first.1 second.2 similar)
  begins from from' s (Lack f at ∷ ms) (Lack f' at' ∷ ns) to to' t t' similar first second moved moved' ends =
      let next = moved_both from from' (Lacks f at first.0) (Lacks f' at' second.0) first.1 second.1 similar in
      let others = begins first.0 second.0 s ms ns to to' t t' next.2 first.2 second.2 moved moved' ends in
      (others.0, same_lack f f' at at' ms (ns ++ others.0) next.0 next.1 others.1, others.2, others.3, others.4)
  begins from from' s (Flat f g at ∷ ms) (LookUp k at' ∷ ns) to to' t t' similar first second moved moved' ends =
      absurd (moved_both from from' (Gives f g at first.0) (Asks k at' second.0) first.1 second.2 similar)
  begins from from' s (LookUp k at ∷ ms) (Flat f g at' ∷ ns) to to' t t' similar first second moved moved' ends =
      absurd (moved_both from from' (Asks k at first.0) (Gives f g at' second.0) first.2 second.1 similar)
  begins from from' s (Flat f g at ∷ ms) (Flat f' g' at' ∷ ns) to to' t t' similar first second moved moved' ends =
      let next = moved_both from from' (Gives f g at first.0) (Gives f' g' at' second.0) first.1 second.1 similar in
      let there = apart c (state_after c s f) ms t moved in
      let there' = apart c (state_after c s f') ns t' moved' in
      let state : Ok there.0 ≡ Ok there'.0 = sym there.1 ∙ ap (λ (x : FlatCommand). state_after c s x) next.0 ∙ there'.1 in
      let states : there'.0 ≡ there.0 = cc in
      let others = begins first.0 second.0 there.0 ms ns to to' t t' next.3 first.2 second.2
      there.2 (subst (λ (x : State). last_state c x ns ≡ Ok t') states there'.2) ends in
      (others.0, same_flat f f' g g' at at' ms (ns ++ others.0) next.0 next.1 next.2 others.1, others.2, others.3, others.4)
  begins from from' s (LookUp k at ∷ ms) (LookUp k' at' ∷ ns) to to' t t' similar first second moved moved' ends =
      let next = moved_both from from' (Asks k at first.0) (Asks k' at' second.0) first.2 second.2 similar in
      let found : Finds k second.1 = subst (λ (x : FontKey). Finds x second.1) (sym next.0) second.3 in
      let rests = next.2 first.1 second.1 (alike k first.1 second.1 first.3 found) in
      let others = begins (first.0 first.1) (second.0 second.1) s ms ns to to' t t' rests first.4 second.4 moved moved' ends in
      (others.0, same_look k k' at at' ms (ns ++ others.0) next.0 next.1 others.1, others.2, others.3, others.4)

  -- a look-up that stands where a page was broken off is the page's next
  next_look : (past to : Course) (more : List Member) (k : FontKey) (at : ℕ) (rest : Decoded → Course) (t : State) → Similar past (Asks k at rest) → Unfolds Finds past more to
      → IsAtEnd c t to → (later : List FontKey) × (looks_of more ≡ k ∷ later)
  next_look past to [] k at rest t similar leads ends = absurd (similar_end c t past (Asks k at rest) similar (subst (IsAtEnd c t) (sym leads) ends))
  next_look past to (Flat f g at' ∷ more) k at rest t similar leads ends =
      absurd (moved_both past (Asks k at rest) (Gives f g at' leads.0) (Asks k at rest) leads.1 refl similar)
  next_look past to (Lack f at' ∷ more) k at rest t similar leads ends =
      absurd (moved_both past (Asks k at rest) (Lacks f at' leads.0) (Asks k at rest) leads.1 refl similar)
  next_look past to (LookUp k' at' ∷ more) k at rest t similar leads ends =
      let next = moved_both past (Asks k at rest) (Asks k' at' leads.0) (Asks k at rest) leads.2 refl similar in
      (looks_of more, ap (λ (x : FontKey). x ∷ looks_of more) next.0)

  -- the keys asked for, by whether the next one was
  asked_first : (past to to' : Course) (members more : List Member) (t : State) (looks : List FontKey) (old new : Option (List FontKey)) → Similar past to'
      → Unfolds Finds past more to → IsAtEnd c t to → looks ≡ looks_of members ++ looks_of more
      → (GrewBy old new (looks_of members) ⊎ ((k : FontKey) × (at : ℕ) × (rest : Decoded → Course) × (to' ≡ Asks k at rest) × GrewBy old new (looks_of members ++ k ∷ [])))
      → (asked : List FontKey) × (later : List FontKey) × (looks ≡ asked ++ later) × GrewBy old new asked
  asked_first past to to' members more t looks old new similar leads ends all (inl grew) = (looks_of members, looks_of more, all, grew)
  asked_first past to to' members more t looks old new similar leads ends all (inr grew) =
      let next = next_look past to more grew.0 grew.1 grew.2 t (moved_both past to' past (Asks grew.0 grew.1 grew.2) refl grew.3 similar) leads ends in (
        looks_of members ++ grew.0 ∷ [],
        next.0,
        all ∙ ap (λ (keys : List FontKey). looks_of members ++ keys) next.1
            ∙ sym (append_assoc (looks_of members) (grew.0 ∷ []) next.0),
        grew.4,
      )

pub broken_pages_begin : BrokenPagesBegin
broken_pages_begin l u indexed sheet i value looks old new has broken =
    let units : Some broken.units ≡ Some has.units = sym broken.of_document ∙ has.of_document in
    let same : broken.units ≡ has.units = cc in
    let c = conversion has.units in
    let whole = has.has in
    let alike = λ (k : FontKey) (d : Decoded) (e : Decoded) (a : IsFontIn l u k d) (b : IsFontIn l u k e). one_in_a_library l u k d e a b in
    let ends = at_end c _ _ _ value whole.ends in
    let begun = begins (IsFontIn l u) c alike (course_of sheet.tolerant indexed.reading i) (course_of sheet.tolerant indexed.reading i) at_origin whole.members broken.members whole.to broken.to whole.state broken.state
    (course_similar sheet.tolerant indexed.reading i) whole.leads broken.leads whole.moved
    (subst (λ (x : Units). last_state (conversion x) at_origin broken.members ≡ Ok broken.state) same broken.moved) ends in
    asked_first (IsFontIn l u) c alike begun.2 whole.to broken.to broken.members begun.0 whole.state looks old new begun.3 begun.4 ends
    (whole.looked ∙ ap looks_of begun.1 ∙ looks_append broken.members begun.0) broken.asked
