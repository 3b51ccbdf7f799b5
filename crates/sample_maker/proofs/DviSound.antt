-- A made document is one.
use Rattle.std.proofs.Common.{◌≡◌, ◌∙◌, inl, inr, ℕ, ◌+◌, ◌%◌, ◌^◌, ◌<◌, ◌≤◌, ℤ, pos, negsuc, true, false, List, [], ◌∷◌, length, Option, Some, None, refl, sym, ap, subst, arith}
use Rattle.std.specs.Prelude.{All, IsTrue, not, if◌then◌else◌, int_lt}
use Rattle.std.specs.List.{AllByRecursion, flat_map, list_any}
use Rattle.std.proofs.lemmas.Bool.{cases_Bool, cond-true, cond-false, eq-eqb, lt-ltb, not-true, and_parts}
use Rattle.big_endian.specs.Numbers.{IsSigned, int_eq}
use Rattle.big_endian.proofs.Integers.{int_eq_same, int_eq_refl}
use Rattle.big_endian.specs.Fields.{signed_at}
use Rattle.big_endian.proofs.Bytes.{signed_is_read_again}
use Rattle.outside.specs.declared.keys.FontKey.{FontKey}
use Rattle.pixel_round.specs.declared.units.Units.{Units}
use Rattle.dvi_commands.specs.Spelling.{DviCommand, Postamble, PostPost}
use Rattle.dvi_commands.specs.ShortestSpelling.{shortest_spelling}
use Rattle.dvi_commands.specs.Reading.{commands_of}
use Rattle.dvi_commands.specs.declared.command.Context.TheVariants as context
use Rattle.page_index.specs.Limits.{MAX_DOCUMENT_LENGTH, MAX_PAGES}
use Rattle.page_index.specs.Judged.{is_scale_right, post_fault, post_fault_against, postpost_fault, preamble_fault}
use Rattle.page_index.specs.Document.{IsDocument, Reading, end_of, font_table, last_bop, pages_begun, post_at, preamble_of, text_of}
use Rattle.page_index.specs.declared.faults.DocFault.{DocFault}
use Rattle.page_index.specs.declared.faults.DocFault.TheVariants as fault
use Rattle.sample_maker.specs.DviFile.{AreSigned, DefineRightly, IsFontSpelled, IsPageText, IsWritable, are_apart, reading_after, definition, document_reading, document_text, filler_after, key_given, pages_reading, postamble, preamble, with_fonts}
use Rattle.sample_maker.proofs.DviPages.{fonts_there, none_given, not_redefined}
use Rattle.sample_maker.proofs.DviRead.{all_spelled, are, at, done_stands, end_stands, ended, head, head_even, head_stands, minus, pre_stands, told}
use Rattle.sample_maker.proofs.DviRight.{AreRight, IsFree, Rightly, allowed_there, fonts_right, pages_right, place_is, sound_of}

-- ---- the preamble

-- what is wrong with the three numbers of a preamble
abbrev judged : ℕ → ℤ → ℤ → ℤ → Option DocFault
judged res num den mag =
    if int_lt (pos 0) num then
    (if int_lt (pos 0) den then
    (if int_lt (pos 0) mag then (if is_scale_right res num den mag then None else Some (fault.Scale 2)) else Some (fault.Preamble 10))
    else Some (fault.Preamble 6))
    else Some (fault.Preamble 2)

positive : (n : ℕ) → 1 ≤ n → int_lt (pos 0) (pos n) ≡ true
positive n some = lt-ltb 0 n (omega (arith, some))

signed_again : (n : ℕ) → n < 2 ^ 31 → IsSigned 4 (pos n)
signed_again n few = omega (arith, few)

pub preamble_right : (u : Units) (res : ℕ) → AreSigned u → IsTrue (is_scale_right res (pos u.num) (pos u.den) (pos u.mag)) → preamble_fault res (shortest_spelling (preamble u)) ≡ None
preamble_right u res s scale =
    let text = shortest_spelling (preamble u) in
    let num : signed_at text 2 4 ≡ pos u.num = signed_is_read_again 4 (pos u.num) (omega arith) (omega arith) (signed_again u.num s.num.1) in
    let den : signed_at text 6 4 ≡ pos u.den = signed_is_read_again 4 (pos u.den) (omega arith) (omega arith) (signed_again u.den s.den.1) in
    let mag : signed_at text 10 4 ≡ pos u.mag = signed_is_read_again 4 (pos u.mag) (omega arith) (omega arith) (signed_again u.mag s.mag.1) in
    let three : judged res (signed_at text 2 4) (signed_at text 6 4) (signed_at text 10 4) ≡ judged res (pos u.num) (pos u.den) (pos u.mag) =
    ap (λ (z : ℤ). judged res z (signed_at text 6 4) (signed_at text 10 4)) num
    ∙ ap (λ (z : ℤ). judged res (pos u.num) z (signed_at text 10 4)) den
    ∙ ap (judged res (pos u.num) (pos u.den)) mag in
    three ∙ rw (positive u.num s.num.0, positive u.den s.den.0, positive u.mag s.mag.0, scale) refl

-- ---- the postamble

post_right : (u : Units) (n at : ℕ) (r : Reading) → pages_begun r ≡ n → preamble_of r ≡ Some (told u)
    → post_fault (pages_begun r) (last_bop r) (preamble_of r) at (record { back = last_bop r; num = pos u.num; den = pos u.den; mag = pos u.mag; tallest = pos 0; widest = pos 0; deepest = 0; pages = n % 65536 }) ≡ None
post_right u n at r begun preamble =
    let q : Postamble = record { back = last_bop r; num = pos u.num; den = pos u.den; mag = pos u.mag; tallest = pos 0; widest = pos 0; deepest = 0; pages = n % 65536 } in
    ap (λ (o : Option _). post_fault (pages_begun r) (last_bop r) o at q) preamble
    ∙ ap (λ (k : ℕ). post_fault_against k (last_bop r) (pos u.num) (pos u.den) (pos u.mag) at q) begun
    ∙ rw (int_eq_refl (last_bop r), int_eq_refl (pos u.num), int_eq_refl (pos u.den), int_eq_refl (pos u.mag), eq-eqb (n % 65536) (n % 65536) refl) refl

post_stays : (fonts : List (ℤ × FontKey)) (r : Reading) → post_at (with_fonts r fonts) ≡ post_at r
post_stays [] r = refl
post_stays (f ∷ fonts) r = post_stays fonts (reading_after r (definition f))

postpost_right : (post at : ℕ) → post < 2 ^ 31 → postpost_fault (Some post) at (shortest_spelling (PostPost (pos post) 2)) ≡ None
postpost_right post at few =
    let text = shortest_spelling (PostPost (pos post) 2) in
    let pointer : signed_at text 1 4 ≡ pos post = signed_is_read_again 4 (pos post) (omega arith) (omega arith) (signed_again post few) in
    ap (λ (z : ℤ). if int_eq z (pos post) then None else Some (fault.Trailer (at + 1))) pointer ∙ rw (int_eq_refl (pos post)) refl

-- ---- fonts

module _ (known : ℤ → Option FontKey) where
  all_free : (fonts : List (ℤ × FontKey)) → ((k : ℤ) → known k ≡ None) → AllByRecursion (IsFree known) fonts
  all_free [] none = tt
  all_free (f ∷ fonts) none = (inl (none f.0), all_free fonts none)

  all_kept : (fonts : List (ℤ × FontKey)) → IsTrue (are_apart fonts) → ((k : ℤ) (key : FontKey) → key_given fonts k ≡ Some key → known k ≡ Some key) → AllByRecursion (IsFree known) fonts
  all_kept [] apart kept = tt
  all_kept (f ∷ fonts) apart kept =
      let parts = and_parts (not (list_any (λ (g : ℤ × FontKey). int_eq g.0 f.0) fonts)) (are_apart fonts) apart in
      let first = cond-true (int_eq f.0 f.0) (Some f.1) (key_given fonts f.0) (int_eq_refl f.0) in
      (inr (kept f.0 f.1 first), all_kept fonts parts.1 (λ k key e. kept k key (later k key (none_given fonts f.0 (not-true _ parts.0)) e)))
    where
      later : (k : ℤ) (key : FontKey) → key_given fonts f.0 ≡ None → key_given fonts k ≡ Some key → key_given (f ∷ fonts) k ≡ Some key
      later k key none e = elim (cases_Bool (int_eq f.0 k)) [
        | inl same ↦
            let here : key_given fonts f.0 ≡ Some key = ap (key_given fonts) (int_eq_same f.0 k same) ∙ e in
            let no : None ≡ Some key = sym none ∙ here in
            cc
        | inr other ↦ cond-false (int_eq f.0 k) (Some f.1) (key_given fonts k) other ∙ e
      ]

same_keys : (a b : ℤ → Option FontKey) (commands : List DviCommand) → ((k : ℤ) → a k ≡ b k) → DefineRightly a commands → DefineRightly b commands
same_keys a b commands same h = subst (λ (known : ℤ → Option FontKey). DefineRightly known commands) (λ i k. same k i) h

-- what the fonts give is what the reading of them has
given_there : (fonts : List (ℤ × FontKey)) (r : Reading) → IsTrue (are_apart fonts) → ((k : ℤ) → font_table r k ≡ None) → (k : ℤ) → key_given fonts k ≡ font_table (with_fonts r fonts) k
given_there fonts r apart none k = by (key_given fonts k) refl
  where
    by : (o : Option FontKey) → key_given fonts k ≡ o → key_given fonts k ≡ font_table (with_fonts r fonts) k
    by None e = e ∙ sym (not_redefined fonts r k e ∙ none k)
    by (Some key) e = e ∙ sym (fonts_there fonts r k key apart e)

-- ---- the document

module _ (u : Units) (fonts : List (ℤ × FontKey)) (pages : List (List ℕ)) (s : AreSigned u) (writable : AllByRecursion IsWritable fonts) (spelled : All IsFontSpelled fonts) (apart : IsTrue (are_apart fonts))
    (few : length pages ≤ MAX_PAGES) (all : AllByRecursion IsPageText pages) (fits : length (document_text u fonts pages) ≤ MAX_DOCUMENT_LENGTH)
    (res : ℕ) (scale : IsTrue (is_scale_right res (pos u.num) (pos u.den) (pos u.mag))) (define : DefineRightly (key_given fonts) (flat_map commands_of pages)) where
  short : length (document_text u fonts pages) < 2 ^ 31
  short = omega (arith, fits)

  abbrev first : Reading
  first = reading_after [] (preamble u)

  abbrev prefix : Reading
  prefix = pages_reading u fonts pages

  first_right : AreRight res first
  first_right = (tt, record { allowed = refl; right = preamble_right u res s scale })

  head_right : AreRight res (head u fonts)
  head_right =
      fonts_right res (told u) false 0 (negsuc 0) fonts first spelled writable apart (pre_stands u fonts pages s.num.1 s.den.1 s.mag.1 spelled apart few all short)
      (all_free (font_table first) fonts (λ k. refl)) first_right

  prefix_right : Rightly res (head u fonts) prefix []
  unfolding pages_reading
  prefix_right =
      pages_right res 0 (told u) pages (negsuc 0) (head u fonts) 1 all (head_stands u fonts pages s.num.1 s.den.1 s.mag.1 spelled apart few all short) (head_even u fonts)
      (minus u fonts pages s.num.1 s.den.1 s.mag.1 spelled apart few all short) (omega (arith, few)) (omega (arith, few)) (at u fonts pages s.num.1 s.den.1 s.mag.1 spelled apart few all short) head_right
      (same_keys (key_given fonts) (font_table (head u fonts)) (flat_map commands_of pages) (given_there fonts first apart (λ k. refl)) define)

  abbrev closing : DviCommand
  closing = postamble u (last_bop prefix) (length pages)

  abbrev done : Reading
  done = reading_after prefix closing

  done_right : AreRight res done
  done_right =
      let pages_are = are u fonts pages s.num.1 s.den.1 s.mag.1 spelled apart few all short in
      let stands = done_stands u fonts pages s.num.1 s.den.1 s.mag.1 spelled apart few all short in (
        prefix_right.right,
        record {
          allowed = allowed_there context.Between prefix 248 (place_is (told u) false false (0 + length pages) pages_are.back prefix pages_are.stands) refl;
          right = post_right u (length pages) (end_of prefix) prefix stands.begun stands.preamble;
        },
      )

  kept : (k : ℤ) (key : FontKey) → key_given fonts k ≡ Some key → font_table done k ≡ Some key
  kept k key e = prefix_right.keeps k key (fonts_there fonts first k key apart e)

  end_right : AreRight res (with_fonts done fonts)
  end_right =
      fonts_right res (told u) true (length pages) _ fonts done spelled writable apart (done_stands u fonts pages s.num.1 s.den.1 s.mag.1 spelled apart few all short)
      (all_kept (font_table done) fonts apart kept) done_right

  all_right : AreRight res (document_reading u fonts pages)
  unfolding document_reading
  all_right = (
    end_right,
    record {
      allowed = allowed_there context.Post (with_fonts done fonts) 249 (place_is (told u) true false (length pages) _ (with_fonts done fonts) (end_stands u fonts pages s.num.1 s.den.1 s.mag.1 spelled apart few all short)) refl;
      right = ap (λ (o : Option ℕ). postpost_fault o (end_of (with_fonts done fonts)) (shortest_spelling (PostPost (pos (end_of prefix)) 2))) (post_stays fonts done)
          ∙ postpost_right (end_of prefix) (end_of (with_fonts done fonts)) (at u fonts pages s.num.1 s.den.1 s.mag.1 spelled apart few all short);
    },
  )

  pub is_document : IsDocument res (document_text u fonts pages) (document_reading u fonts pages)
  unfolding document_text
  is_document = record {
    fits = fits;
    sound = sound_of res (document_reading u fonts pages) (all_spelled u fonts pages s.num.1 s.den.1 s.mag.1 spelled apart few all short) all_right;
    ended = ended u fonts pages s.num.1 s.den.1 s.mag.1 spelled apart few all short;
    filler = filler_after (length (text_of (document_reading u fonts pages)));
    filled = omega arith;
    whole = refl;
  }
