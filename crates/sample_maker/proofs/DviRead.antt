-- A made document's bytes, read again.
use Rattle.std.proofs.Common.{◌≡◌, ◌∙◌, ℕ, ◌+◌, ◌^◌, ◌<◌, ◌≤◌, ℤ, pos, negsuc, true, false, List, [], ◌∷◌, ◌++◌, length, get_or, refl, sym, ap, subst, arith, length-append, None}
use Rattle.std.specs.Prelude.{All, IsTrue, replicate}
use Rattle.std.specs.List.{AllByRecursion}
use Rattle.std.specs.Option.{option_map}
use Rattle.big_endian.specs.Numbers.{IsSigned}
use Rattle.outside.specs.declared.keys.FontKey.{FontKey}
use Rattle.pixel_round.specs.declared.units.Units.{Units}
use Rattle.dvi_commands.specs.Spelling.{DviCommand, Preamble, PostPost, Spells}
use Rattle.dvi_commands.specs.ShortestSpelling.{shortest_spelling}
use Rattle.dvi_commands.specs.Reading.{placed, placed_from}
use Rattle.page_index.specs.Limits.{MAX_PAGES}
use Rattle.page_index.specs.Document.{IsDocument, Reading, end_of, font_table, is_ended, last_bop, text_of, units_of}
use Rattle.page_index.specs.Pages.{page_commands}
use Rattle.sample_maker.specs.DviFile.{GivesBack, IsFontSpelled, IsPageText, NeverDefines, are_apart, reading_after, document_reading, document_text, filler_after, fonts_text, key_given, last_page, pages_reading, pages_text, postamble, preamble, with_fonts}
use Rattle.sample_maker.proofs.Spelled.{AreSpelled, one_reading, sound_spelled}
use Rattle.sample_maker.proofs.PageTexts.{IsEven, Stands, even_after, off_page}
use Rattle.sample_maker.proofs.DviTexts.{fonts_even, last_of_pages, pages_even, text_of_fonts, text_of_pages}
use Rattle.sample_maker.proofs.DviPages.{ArePages, are_pages, none_on_pages, not_redefined, fonts_off_page, fonts_stand, fonts_there, position_fits}

abbrev pub told : Units → Preamble
told u = record { id = 2; num = pos u.num; den = pos u.den; mag = pos u.mag; text = [] }

-- the preamble and the fonts
abbrev pub head : Units → List (ℤ × FontKey) → Reading
head u fonts = with_fonts (reading_after [] (preamble u)) fonts

pub head_even : (u : Units) (fonts : List (ℤ × FontKey)) → IsEven (head u fonts)
head_even u fonts = fonts_even fonts (reading_after [] (preamble u)) (even_after [] (preamble u) refl)

head_last : (fonts : List (ℤ × FontKey)) (r : Reading) → last_bop (with_fonts r fonts) ≡ last_bop r
head_last [] r = refl
head_last (f ∷ fonts) r = head_last fonts _

pub head_text : (u : Units) (fonts : List (ℤ × FontKey)) → text_of (head u fonts) ≡ shortest_spelling (preamble u) ++ fonts_text fonts
head_text u fonts = text_of_fonts fonts (reading_after [] (preamble u))

module _ (u : Units) (fonts : List (ℤ × FontKey)) (pages : List (List ℕ)) (all : AllByRecursion IsPageText pages) where
  pub prefix_even : IsEven (pages_reading u fonts pages)
  unfolding pages_reading
  prefix_even = pages_even pages (head u fonts) 1 all (head_even u fonts)

  -- the bytes before the postamble, and the pointer to the last page
  pub prefix_text : text_of (pages_reading u fonts pages) ≡ text_of (head u fonts) ++ pages_text (length (text_of (head u fonts))) 1 (negsuc 0) pages
  unfolding pages_reading
  prefix_text =
      text_of_pages pages (head u fonts) 1 all (head_even u fonts)
      ∙ ap (λ n. text_of (head u fonts) ++ pages_text n 1 (last_bop (head u fonts)) pages) (sym (head_even u fonts))
      ∙ ap (λ z. text_of (head u fonts) ++ pages_text (length (text_of (head u fonts))) 1 z pages) (head_last fonts (reading_after [] (preamble u)))

  pub prefix_last : last_bop (pages_reading u fonts pages) ≡ last_page (length (text_of (head u fonts))) 1 (negsuc 0) pages
  unfolding pages_reading
  prefix_last =
      last_of_pages pages (head u fonts) 1 all (head_even u fonts)
      ∙ ap (λ n. last_page n 1 (last_bop (head u fonts)) pages) (sym (head_even u fonts))
      ∙ ap (λ z. last_page (length (text_of (head u fonts))) 1 z pages) (head_last fonts (reading_after [] (preamble u)))

  abbrev prefix : Reading
  prefix = pages_reading u fonts pages

  abbrev post : DviCommand
  post = postamble u (last_bop prefix) (length pages)

  -- the whole text in its parts
  pub whole_text : text_of (document_reading u fonts pages) ≡ ((text_of prefix ++ shortest_spelling post) ++ fonts_text fonts) ++ shortest_spelling (PostPost (pos (length (text_of prefix))) 2)
  unfolding document_reading
  whole_text =
      ap (λ n. text_of (with_fonts (reading_after prefix post) fonts) ++ shortest_spelling (PostPost (pos n) 2)) (sym prefix_even)
      ∙ ap (λ t. t ++ shortest_spelling (PostPost (pos (length (text_of prefix))) 2)) (text_of_fonts fonts (reading_after prefix post))

  pub prefix_short : length (text_of prefix) ≤ length (text_of (document_reading u fonts pages))
  prefix_short =
      omega (arith, ap length whole_text, length-append ((text_of prefix ++ shortest_spelling post) ++ fonts_text fonts) (shortest_spelling (PostPost (pos (length (text_of prefix))) 2)), length-append (text_of prefix ++ shortest_spelling post) (fonts_text fonts), length-append (text_of prefix) (shortest_spelling post))

pub document_long : (u : Units) (fonts : List (ℤ × FontKey)) (pages : List (List ℕ)) → length (text_of (document_reading u fonts pages)) ≤ length (document_text u fonts pages)
unfolding document_text
document_long u fonts pages = omega (arith, length-append (text_of (document_reading u fonts pages)) (replicate (filler_after (length (text_of (document_reading u fonts pages)))) 223))

-- ---- the reading

module _ (u : Units) (fonts : List (ℤ × FontKey)) (pages : List (List ℕ)) (num : u.num < 2 ^ 31) (den : u.den < 2 ^ 31) (mag : u.mag < 2 ^ 31) (spelled : All IsFontSpelled fonts) (apart : IsTrue (are_apart fonts))
    (few : length pages ≤ MAX_PAGES) (all : AllByRecursion IsPageText pages) (fits : length (document_text u fonts pages) < 2 ^ 31) where
  pre_spelled : Spells (preamble u) (shortest_spelling (preamble u))
  pre_spelled = (0, (refl, omega arith, omega (arith, num), omega (arith, den), omega (arith, mag), omega arith), refl)

  pub pre_stands : Stands (told u) false false 0 (negsuc 0) (reading_after [] (preamble u))
  pre_stands = record { spelled = (tt, record { unfinished = refl; place = refl; spelled = pre_spelled }); going = refl; post_is = refl; open_is = refl; begun = refl; last = refl; preamble = refl }

  pub head_stands : Stands (told u) false false 0 (negsuc 0) (head u fonts)
  head_stands = fonts_stand (told u) false 0 (negsuc 0) fonts (reading_after [] (preamble u)) spelled pre_stands

  pub at : end_of (pages_reading u fonts pages) < 2 ^ 31
  at = omega (arith, prefix_even u fonts pages all, prefix_short u fonts pages all, document_long u fonts pages, fits)

  pub minus : IsSigned 4 (negsuc 0)
  minus = omega arith

  pub are : ArePages (told u) 0 pages (head u fonts) (pages_reading u fonts pages)
  unfolding pages_reading
  are = are_pages (told u) pages 0 (negsuc 0) (head u fonts) 1 all head_stands (head_even u fonts) minus (omega (arith, few)) at

  abbrev pub closing : DviCommand
  closing = postamble u (last_bop (pages_reading u fonts pages)) (length pages)

  abbrev pub done : Reading
  done = reading_after (pages_reading u fonts pages) closing

  post_spelled : Spells (postamble u (last_bop (pages_reading u fonts pages)) (length pages)) (shortest_spelling (postamble u (last_bop (pages_reading u fonts pages)) (length pages)))
  post_spelled = (0, (refl, (subst (IsSigned 4) (sym are.stands.last) are.fits, (omega (arith, num), (omega (arith, den), (omega (arith, mag), (omega arith, (omega arith, tt)))))), omega arith, omega arith), refl)

  pub done_stands : Stands (told u) true false (length pages) are.back done
  done_stands = record {
    spelled = (are.stands.spelled, record { unfinished = are.stands.going; place = refl; spelled = post_spelled });
    going = refl;
    post_is = refl;
    open_is = are.stands.open_is;
    begun = let same : 0 + length pages ≡ length pages = omega arith in are.stands.begun ∙ same;
    last = are.stands.last;
    preamble = are.stands.preamble;
  }

  pub end_stands : Stands (told u) true false (length pages) are.back (with_fonts done fonts)
  end_stands = fonts_stand (told u) true (length pages) are.back fonts done spelled done_stands

  pub all_spelled : AreSpelled (document_reading u fonts pages)
  unfolding document_reading
  all_spelled = (end_stands.spelled, record { unfinished = end_stands.going; place = refl; spelled = (0, (refl, position_fits _ at, omega arith), refl) })

  pub ended : is_ended (document_reading u fonts pages) ≡ true
  unfolding document_reading
  ended = refl

  pub its_reading : (res : ℕ) (r : Reading) → IsDocument res (document_text u fonts pages) r → r ≡ document_reading u fonts pages
  unfolding document_text
  its_reading res r is = one_reading r (document_reading u fonts pages) _ _ (sound_spelled res r is.sound) all_spelled is.ended ended (sym is.whole)

  page_of : (i : ℕ) → i < length pages → (k : ℕ) × (page_commands i (document_reading u fonts pages) ≡ placed_from k (get_or pages i []))
  unfolding document_reading
  page_of i lt =
      let there = are.each i lt in
      let same : 0 + i ≡ i = omega arith in
      (there.0, off_page i (placed (end_of (with_fonts done fonts)) (PostPost (pos (end_of (pages_reading u fonts pages))) 2) (shortest_spelling (PostPost (pos (end_of (pages_reading u fonts pages))) 2))) (with_fonts done fonts) end_stands.open_is ∙ fonts_off_page i fonts done done_stands.open_is ∙ off_page i (placed (end_of (pages_reading u fonts pages)) closing (shortest_spelling closing)) (pages_reading u fonts pages) are.stands.open_is ∙ ap (λ k. page_commands k (pages_reading u fonts pages)) (sym same) ∙ there.1)

  others : (k : ℤ) → key_given fonts k ≡ None → AllByRecursion (NeverDefines k) pages → font_table (document_reading u fonts pages) k ≡ None
  unfolding document_reading pages_reading
  others k none never =
      not_redefined fonts done k none
      ∙ none_on_pages k pages (head u fonts) 1 all never (not_redefined fonts (reading_after [] (preamble u)) k none)

  made : (res : ℕ) → GivesBack u fonts pages res (document_reading u fonts pages)
  unfolding document_reading
  made res = record {
    units = ap (option_map (units_of res)) end_stands.preamble;
    count = end_stands.begun;
    page = page_of;
    font = λ k key given. fonts_there fonts done k key apart given;
    other = others;
  }

  pub gives_back : (res : ℕ) (r : Reading) → IsDocument res (document_text u fonts pages) r → GivesBack u fonts pages res r
  gives_back res r is = subst (GivesBack u fonts pages res) (sym (its_reading res r is)) (made res)
