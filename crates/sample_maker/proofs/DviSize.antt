-- How long a made document is at most.
use Rattle.std.proofs.Common.{◌≡◌, ℕ, ◌+◌, ◌*◌, ◌≤◌, ℤ, pos, negsuc, List, [], ◌∷◌, ◌++◌, length, refl, ap, arith, length-append, replicate}
use Rattle.std.specs.List.{AllByRecursion}
use Rattle.std.proofs.lemmas.List.{length-replicate}
use Rattle.outside.specs.declared.keys.FontKey.{FontKey}
use Rattle.pixel_round.specs.declared.units.Units.{Units}
use Rattle.dvi_commands.specs.Spelling.{Eop, PostPost}
use Rattle.dvi_commands.specs.ShortestSpelling.{shortest_spelling}
use Rattle.page_index.specs.Document.{last_bop, text_of}
use Rattle.sample_maker.specs.DviFile.{IsPageText, beginning, document_reading, document_text, filler_after, fonts_text, page_bytes, pages_reading, pages_text, postamble, preamble}
use Rattle.sample_maker.proofs.DviRead.{prefix_text, head, head_text, whole_text}

-- a page has 46 bytes around its own
abbrev pub pages_size : List (List ℕ) → ℕ
pages_size [] = 0
pages_size (body ∷ pages) = 46 + length body + pages_size pages

page_size : (number : ℕ) (back : ℤ) (body : List ℕ) → length (page_bytes number back body) ≡ 46 + length body
unfolding page_bytes
page_size number back body = omega (arith, length-append (shortest_spelling (beginning number back) ++ body) (shortest_spelling Eop), length-append (shortest_spelling (beginning number back)) body)

pages_long : (pages : List (List ℕ)) (at number : ℕ) (back : ℤ) → length (pages_text at number back pages) ≡ pages_size pages
pages_long [] at number back = refl
pages_long (body ∷ pages) at number back =
    let this = page_bytes number back body in
    omega (arith, length-append this (pages_text (at + length this) (number + 1) (pos at) pages), page_size number back body, pages_long pages (at + length this) (number + 1) (pos at))

pub document_size : (u : Units) (fonts : List (ℤ × FontKey)) (pages : List (List ℕ)) → AllByRecursion IsPageText pages
    → length (document_text u fonts pages) ≤ 57 + 2 * length (fonts_text fonts) + pages_size pages
unfolding document_text
document_size u fonts pages all =
    let prefix = pages_reading u fonts pages in
    let post = postamble u (last_bop prefix) (length pages) in
    let last = PostPost (pos (length (text_of prefix))) 2 in
    let text = text_of (document_reading u fonts pages) in
    omega (
      arith,
      length-append text (replicate (filler_after (length text)) 223),
      length-replicate {A = ℕ} (filler_after (length text)) 223,
      ap length (whole_text u fonts pages all),
      length-append ((text_of prefix ++ shortest_spelling post) ++ fonts_text fonts) (shortest_spelling last),
      length-append (text_of prefix ++ shortest_spelling post) (fonts_text fonts),
      length-append (text_of prefix) (shortest_spelling post),
      ap length (prefix_text u fonts pages all),
      length-append (text_of (head u fonts)) (pages_text (length (text_of (head u fonts))) 1 (negsuc 0) pages),
      pages_long pages (length (text_of (head u fonts))) 1 (negsuc 0),
      ap length (head_text u fonts),
      length-append (shortest_spelling (preamble u)) (fonts_text fonts),
    )
