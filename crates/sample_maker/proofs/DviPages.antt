-- What the reading of a made document gives.
use Rattle.std.proofs.Common.{◌≡◌, ◌∙◌, inl, inr, ℕ, zero, suc, ◌+◌, ◌^◌, ◌<◌, ◌≤◌, ℤ, pos, Bool, true, false, List, [], ◌∷◌, ◌++◌, length, get_or, Some, None, refl, sym, ap, subst, arith}
use Rattle.std.specs.Prelude.{All, IsTrue, not, ◌&&◌, ◌==◌, if◌then◌else◌}
use Rattle.std.specs.List.{AllByRecursion, list_any}
use Rattle.std.proofs.lemmas.Bool.{and_parts, ne_eqb, or_parts, not-true, cases_Bool, cond-true, cond-false}
use Rattle.big_endian.specs.Numbers.{IsSigned, int_eq}
use Rattle.big_endian.proofs.Integers.{int_eq_same}
use Rattle.outside.specs.declared.keys.FontKey.{FontKey}
use Rattle.dvi_commands.specs.Spelling.{Preamble, Spells}
use Rattle.dvi_commands.specs.ShortestSpelling.{shortest_spelling}
use Rattle.dvi_commands.specs.Reading.{Placed, placed, placed_from}
use Rattle.page_index.specs.Document.{Reading, context_after, end_of, font_table, is_bop, is_eop, is_page_open, last_bop, pages_begun}
use Rattle.page_index.specs.Pages.{is_page, page_commands}
use Rattle.sample_maker.specs.DviFile.{IsFontSpelled, IsPageText, NeverDefines, are_apart, beginning, reading_after, after_text, definition, key_given, with_fonts, with_page, with_pages}
use Rattle.sample_maker.proofs.PageTexts.{IsEven, Stands, end_off_page, nothing_defined, off_page, others_stay, own_added, text_stands}
use Rattle.sample_maker.proofs.DviTexts.{page_even, pages_grow}

-- a page that is not begun has no command
none_yet : (i : ℕ) (r : Reading) → pages_begun r ≤ i → page_commands i r ≡ []
none_yet i [] h = refl
none_yet i (p ∷ before) h = one_less (is_bop p.command) (is_page (context_after before) && not (is_eop p.command)) (pages_begun before) (page_commands i before) p h (none_yet i before)
  where
    one_less : (bop on : Bool) (n : ℕ) (cs : List Placed) (c : Placed) → (if bop then suc n else n) ≤ i → (n ≤ i → cs ≡ []) → (if on && n == suc i then cs ++ c ∷ [] else cs) ≡ []
    one_less true true n cs c e h = let other : (n == suc i) ≡ false = ne_eqb n (suc i) (λ same. omega (arith, e, same)) in rw other (h (omega (arith, e)))
    one_less false true n cs c e h = let other : (n == suc i) ≡ false = ne_eqb n (suc i) (λ same. omega (arith, e, same)) in rw other (h e)
    one_less true false n cs c e h = h (omega (arith, e))
    one_less false false n cs c e h = h e

-- ---- fonts

pub first_font : (f : ℤ × FontKey) (fonts : List (ℤ × FontKey)) → All IsFontSpelled (f ∷ fonts) → IsFontSpelled f × All IsFontSpelled fonts
first_font f fonts h = (h 0 f (omega arith), λ k d lt. h (suc k) d (omega (arith, lt)))

pub fonts_stand : (q : Preamble) (post : Bool) (n : ℕ) (back : ℤ) (fonts : List (ℤ × FontKey)) (r : Reading) → All IsFontSpelled fonts → Stands q post false n back r → Stands q post false n back (with_fonts r fonts)
fonts_stand q post n back [] r all h = h
fonts_stand q post n back (f ∷ fonts) r all h =
    let parts = first_font f fonts all in
    fonts_stand q post n back fonts (reading_after r (definition f)) parts.1 (record {
      spelled = (h.spelled, record { unfinished = h.going; place = refl; spelled = parts.0.spelled });
      going = refl;
      post_is = h.post_is;
      open_is = h.open_is;
      begun = h.begun;
      last = h.last;
      preamble = h.preamble;
    })

pub fonts_off_page : (i : ℕ) (fonts : List (ℤ × FontKey)) (r : Reading) → is_page_open r ≡ false → page_commands i (with_fonts r fonts) ≡ page_commands i r
fonts_off_page i [] r h = refl
fonts_off_page i (f ∷ fonts) r h = fonts_off_page i fonts (reading_after r (definition f)) h ∙ off_page i (placed (end_of r) (definition f) (shortest_spelling (definition f))) r h

-- a font of another number changes nothing
pub not_redefined : (fonts : List (ℤ × FontKey)) (r : Reading) (k : ℤ) → key_given fonts k ≡ None → font_table (with_fonts r fonts) k ≡ font_table r k
not_redefined [] r k h = refl
not_redefined (f ∷ fonts) r k h = elim (cases_Bool (int_eq f.0 k)) [
  | inl same ↦ let some : Some f.1 ≡ None = sym (cond-true (int_eq f.0 k) (Some f.1) (key_given fonts k) same) ∙ h in cc
  | inr other ↦
      let rest : key_given fonts k ≡ None = sym (cond-false (int_eq f.0 k) (Some f.1) (key_given fonts k) other) ∙ h in
      not_redefined fonts (reading_after r (definition f)) k rest ∙ cond-false (int_eq f.0 k) (Some f.1) (font_table r k) other
]

pub none_given : (fonts : List (ℤ × FontKey)) (k : ℤ) → list_any (λ (g : ℤ × FontKey). int_eq g.0 k) fonts ≡ false → key_given fonts k ≡ None
none_given [] k h = refl
none_given (f ∷ fonts) k h =
    let parts = or_parts (int_eq f.0 k) (list_any (λ (g : ℤ × FontKey). int_eq g.0 k) fonts) h in
    cond-false (int_eq f.0 k) (Some f.1) (key_given fonts k) parts.0 ∙ none_given fonts k parts.1

pub fonts_there : (fonts : List (ℤ × FontKey)) (r : Reading) (k : ℤ) (key : FontKey) → IsTrue (are_apart fonts) → key_given fonts k ≡ Some key → font_table (with_fonts r fonts) k ≡ Some key
fonts_there [] r k key apart given = cc
fonts_there (f ∷ fonts) r k key apart given = elim (cases_Bool (int_eq f.0 k)) [
  | inl same ↦
      let number : f.0 ≡ k = int_eq_same f.0 k same in
      let alone : key_given fonts f.0 ≡ None = none_given fonts f.0 (not-true _ (and_parts _ _ apart).0) in
      let here : Some f.1 ≡ Some key = sym (cond-true (int_eq f.0 k) (Some f.1) (key_given fonts k) same) ∙ given in
      not_redefined fonts (reading_after r (definition f)) k (ap (key_given fonts) (sym number) ∙ alone) ∙ cond-true (int_eq f.0 k) (Some f.1) (font_table r k) same ∙ here
  | inr other ↦ fonts_there fonts (reading_after r (definition f)) k key (and_parts _ _ apart).1 (sym (cond-false (int_eq f.0 k) (Some f.1) (key_given fonts k) other) ∙ given)
]

-- a font number that no font and no page has stays without a key
none_on_page : (k : ℤ) (r : Reading) (number : ℕ) (body : List ℕ) → IsPageText body → NeverDefines k body → font_table r k ≡ None → font_table (with_page r number body) k ≡ None
none_on_page k r number body is never none = nothing_defined k body (reading_after r (beginning number (last_bop r))) is never none

pub none_on_pages : (k : ℤ) (pages : List (List ℕ)) (r : Reading) (number : ℕ) → AllByRecursion IsPageText pages → AllByRecursion (NeverDefines k) pages → font_table r k ≡ None → font_table (with_pages r number pages) k ≡ None
none_on_pages k [] r number all never none = none
none_on_pages k (body ∷ pages) r number all never none = none_on_pages k pages (with_page r number body) (number + 1) all.1 never.1 (none_on_page k r number body all.0 never.0 none)

-- ---- a page

nought : IsSigned 4 (pos 0)
nought = omega arith

bop_spelled : (number : ℕ) (back : ℤ) → number < 2 ^ 31 → IsSigned 4 back → Spells (beginning number back) (shortest_spelling (beginning number back))
bop_spelled number back lt h =
    (0, (refl, refl, (omega arith, (nought, (nought, (nought, (nought, (nought, (nought, (nought, (nought, (nought, tt)))))))))), h), refl)

module _ (q : Preamble) (n : ℕ) (back : ℤ) (r : Reading) (h : Stands q false false n back r) (number : ℕ) (few : number < 2 ^ 31) (fits : IsSigned 4 back) (body : List ℕ) (is : IsPageText body) where
  abbrev pub opened : Reading
  opened = reading_after r (beginning number (last_bop r))

  pub opened_stands : Stands q false true (suc n) (pos (end_of r)) opened
  opened_stands = record {
    spelled = (h.spelled, record { unfinished = h.going; place = refl; spelled = bop_spelled number (last_bop r) few (subst (IsSigned 4) (sym h.last) fits) });
    going = refl;
    post_is = h.post_is;
    open_is = refl;
    begun = ap suc h.begun;
    last = refl;
    preamble = h.preamble;
  }

  pub filled_stands : Stands q false true (suc n) (pos (end_of r)) (after_text opened body)
  filled_stands = text_stands q false true (suc n) (pos (end_of r)) body opened is opened_stands

  pub page_stands : Stands q false false (suc n) (pos (end_of r)) (with_page r number body)
  page_stands = record {
    spelled = (filled_stands.spelled, record { unfinished = filled_stands.going; place = refl; spelled = (0, refl, refl) });
    going = refl;
    post_is = filled_stands.post_is;
    open_is = refl;
    begun = filled_stands.begun;
    last = filled_stands.last;
    preamble = filled_stands.preamble;
  }

  pub earlier_stays : (i : ℕ) → i < n → page_commands i (with_page r number body) ≡ page_commands i r
  earlier_stays i lt =
      end_off_page i _ _ (after_text opened body)
      ∙ others_stay q n (pos (end_of r)) i body opened is lt opened_stands
      ∙ off_page i (placed (end_of r) (beginning number (last_bop r)) (shortest_spelling (beginning number (last_bop r)))) r h.open_is

  pub page_there : page_commands n (with_page r number body) ≡ placed_from (end_of opened) body
  page_there =
      end_off_page n _ _ (after_text opened body)
      ∙ own_added q n (pos (end_of r)) body opened is opened_stands
      ∙ ap (λ t. t ++ placed_from (end_of opened) body) (off_page n (placed (end_of r) (beginning number (last_bop r)) (shortest_spelling (beginning number (last_bop r)))) r h.open_is ∙ none_yet n r (omega (arith, h.begun)))

-- ---- pages

pub position_fits : (n : ℕ) → n < 2 ^ 31 → IsSigned 4 (pos n)
position_fits n lt = omega arith

pub record ArePages (q : Preamble) (n : ℕ) (pages : List (List ℕ)) (r later : Reading) : Type 0 where
  pub back : ℤ
  pub fits : IsSigned 4 back
  pub stands : Stands q false false (n + length pages) back later
  pub earlier : (i : ℕ) → i < n → page_commands i later ≡ page_commands i r
  pub each : (j : ℕ) → j < length pages → (at : ℕ) × (page_commands (n + j) later ≡ placed_from at (get_or pages j []))

pub are_pages : (q : Preamble) (pages : List (List ℕ)) (n : ℕ) (back : ℤ) (r : Reading) (number : ℕ) → AllByRecursion IsPageText pages → Stands q false false n back r → IsEven r → IsSigned 4 back
    → number + length pages < 2 ^ 31 → end_of (with_pages r number pages) < 2 ^ 31 → ArePages q n pages r (with_pages r number pages)
are_pages q [] n back r number all h even fits few short = record {
  back = back;
  fits = fits;
  stands = let same : n ≡ n + 0 = omega arith in subst (λ k. Stands q false false k back r) same h;
  earlier = λ i lt. refl;
  each = λ j lt. absurd (omega (arith, lt));
}
are_pages q (body ∷ pages) n back r number all h even fits few short =
    let next = with_page r number body in
    let small : number < 2 ^ 31 = omega arith in
    let here = page_stands q n back r h number small fits body all.0 in
    let at : end_of r < 2 ^ 31 = omega (arith, page_grows r number body all.0 even, pages_grow pages next (number + 1) all.1 (page_even r number body all.0 even), short) in
    let more = are_pages q pages (suc n) (pos (end_of r)) next (number + 1) all.1 here (page_even r number body all.0 even) (position_fits (end_of r) at) (omega (arith, few)) short in
    record {
      back = more.back;
      fits = more.fits;
      stands = let same : suc n + length pages ≡ n + suc (length pages) = omega arith in subst (λ k. Stands q false false k more.back (with_pages next (number + 1) pages)) same more.stands;
      earlier = λ i lt. more.earlier i (omega (arith, lt)) ∙ earlier_stays q n back r h number small fits body all.0 i lt;
      each = one n back r number h fits small body all.0 pages (with_pages next (number + 1) pages) more.earlier more.each;
    }
  where
    page_grows : (r : Reading) (number : ℕ) (body : List ℕ) → IsPageText body → IsEven r → end_of r ≤ end_of (with_page r number body)
    page_grows r number body is even = pages_grow (body ∷ []) r number (is, tt) even

    one : (n : ℕ) (back : ℤ) (r : Reading) (number : ℕ) → Stands q false false n back r → IsSigned 4 back → number < 2 ^ 31 → (body : List ℕ) → IsPageText body → (pages : List (List ℕ)) (later : Reading)
        → ((i : ℕ) → i < suc n → page_commands i later ≡ page_commands i (with_page r number body))
        → ((j : ℕ) → j < length pages → (at : ℕ) × (page_commands (suc n + j) later ≡ placed_from at (get_or pages j [])))
        → (j : ℕ) → j < length (body ∷ pages) → (at : ℕ) × (page_commands (n + j) later ≡ placed_from at (get_or (body ∷ pages) j []))
    one n back r number h fits small body is pages later earlier each zero lt =
        let same : n + 0 ≡ n = omega arith in
        (_, ap (λ k. page_commands k later) same ∙ earlier n (omega arith) ∙ page_there q n back r h number small fits body is)
    one n back r number h fits small body is pages later earlier each (suc j) lt =
        let same : n + suc j ≡ suc n + j = omega arith in
        let there = each j (omega (arith, lt)) in
        (there.0, ap (λ k. page_commands k later) same ∙ there.1)
