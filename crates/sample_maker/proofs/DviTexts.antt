-- The bytes of a document's reading.
use Rattle.std.proofs.Common.{◌≡◌, ◌∙◌, ℕ, ◌+◌, ◌≤◌, ℤ, pos, List, [], ◌∷◌, ◌++◌, length, refl, sym, ap, arith, append_assoc, append-nil, length-append}
use Rattle.std.specs.List.{AllByRecursion}
use Rattle.outside.specs.declared.keys.FontKey.{FontKey}
use Rattle.dvi_commands.specs.Spelling.{Eop}
use Rattle.dvi_commands.specs.ShortestSpelling.{shortest_spelling}
use Rattle.page_index.specs.Document.{Reading, end_of, last_bop, text_of}
use Rattle.sample_maker.specs.DviFile.{IsPageText, beginning, reading_after, after_text, definition, fonts_text, last_page, page_bytes, pages_text, with_fonts, with_page, with_pages}
use Rattle.sample_maker.proofs.PageTexts.{IsEven, even_after, even_text, last_stays, text_after}

-- ---- fonts

pub fonts_even : (fonts : List (ℤ × FontKey)) (r : Reading) → IsEven r → IsEven (with_fonts r fonts)
fonts_even [] r h = h
fonts_even (f ∷ fonts) r h = fonts_even fonts (reading_after r (definition f)) (even_after r (definition f) h)

pub text_of_fonts : (fonts : List (ℤ × FontKey)) (r : Reading) → text_of (with_fonts r fonts) ≡ text_of r ++ fonts_text fonts
text_of_fonts [] r = sym (append-nil (text_of r))
text_of_fonts (f ∷ fonts) r = text_of_fonts fonts (reading_after r (definition f)) ∙ append_assoc (text_of r) (shortest_spelling (definition f)) (fonts_text fonts)

-- ---- a page

abbrev begun : Reading → ℕ → Reading
begun r number = reading_after r (beginning number (last_bop r))

pub text_of_page : (r : Reading) (number : ℕ) (body : List ℕ) → IsPageText body → text_of (with_page r number body) ≡ text_of r ++ page_bytes number (last_bop r) body
unfolding page_bytes
text_of_page r number body is =
    ap (λ t. t ++ shortest_spelling Eop) (text_after body (begun r number) is)
    ∙ regrouped (text_of r) (shortest_spelling (beginning number (last_bop r))) body (shortest_spelling Eop)
  where
    regrouped : (a b c d : List ℕ) → ((a ++ b) ++ c) ++ d ≡ a ++ ((b ++ c) ++ d)
    regrouped a b c d = simp append_assoc

pub page_even : (r : Reading) (number : ℕ) (body : List ℕ) → IsPageText body → IsEven r → IsEven (with_page r number body)
page_even r number body is h = even_after (after_text (begun r number) body) Eop (even_text body (begun r number) is (even_after r (beginning number (last_bop r)) h))

last_of_page : (r : Reading) (number : ℕ) (body : List ℕ) → IsPageText body → last_bop (with_page r number body) ≡ pos (end_of r)
last_of_page r number body is = last_stays body (begun r number) is

-- ---- pages

pub pages_even : (pages : List (List ℕ)) (r : Reading) (number : ℕ) → AllByRecursion IsPageText pages → IsEven r → IsEven (with_pages r number pages)
pages_even [] r number all h = h
pages_even (body ∷ pages) r number all h = pages_even pages (with_page r number body) (number + 1) all.1 (page_even r number body all.0 h)

page_end : (r : Reading) (number : ℕ) (body : List ℕ) → IsPageText body → IsEven r → end_of (with_page r number body) ≡ end_of r + length (page_bytes number (last_bop r) body)
page_end r number body is h =
    omega (arith, page_even r number body is h, h, ap length (text_of_page r number body is), length-append (text_of r) (page_bytes number (last_bop r) body))

pub text_of_pages : (pages : List (List ℕ)) (r : Reading) (number : ℕ) → AllByRecursion IsPageText pages → IsEven r
    → text_of (with_pages r number pages) ≡ text_of r ++ pages_text (end_of r) number (last_bop r) pages
text_of_pages [] r number all h = sym (append-nil (text_of r))
text_of_pages (body ∷ pages) r number all h =
    let next = with_page r number body in
    let this = page_bytes number (last_bop r) body in
    text_of_pages pages next (number + 1) all.1 (page_even r number body all.0 h)
    ∙ ap (λ t. t ++ pages_text (end_of next) (number + 1) (last_bop next) pages) (text_of_page r number body all.0)
    ∙ ap (λ n. (text_of r ++ this) ++ pages_text n (number + 1) (last_bop next) pages) (page_end r number body all.0 h)
    ∙ ap (λ z. (text_of r ++ this) ++ pages_text (end_of r + length this) (number + 1) z pages) (last_of_page r number body all.0)
    ∙ append_assoc (text_of r) this (pages_text (end_of r + length this) (number + 1) (pos (end_of r)) pages)

pub last_of_pages : (pages : List (List ℕ)) (r : Reading) (number : ℕ) → AllByRecursion IsPageText pages → IsEven r
    → last_bop (with_pages r number pages) ≡ last_page (end_of r) number (last_bop r) pages
last_of_pages [] r number all h = refl
last_of_pages (body ∷ pages) r number all h =
    let next = with_page r number body in
    let this = page_bytes number (last_bop r) body in
    last_of_pages pages next (number + 1) all.1 (page_even r number body all.0 h)
    ∙ ap (λ n. last_page n (number + 1) (last_bop next) pages) (page_end r number body all.0 h)
    ∙ ap (λ z. last_page (end_of r + length this) (number + 1) z pages) (last_of_page r number body all.0)

-- a document only grows
pub pages_grow : (pages : List (List ℕ)) (r : Reading) (number : ℕ) → AllByRecursion IsPageText pages → IsEven r → end_of r ≤ end_of (with_pages r number pages)
pages_grow pages r number all h =
    omega (arith, pages_even pages r number all h, h, ap length (text_of_pages pages r number all h), length-append (text_of r) (pages_text (end_of r) number (last_bop r) pages))
