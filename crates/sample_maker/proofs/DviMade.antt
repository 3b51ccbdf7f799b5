-- A document as it is appended.
use Rattle.std.proofs.Common.{◌≡◌, ◌∙◌, ℕ, ◌+◌, ◌^◌, ◌<◌, ℤ, pos, negsuc, List, [], ◌++◌, length, sym, ap, arith, length-append, replicate}
use Rattle.std.specs.List.{AllByRecursion}
use Rattle.outside.specs.declared.keys.FontKey.{FontKey}
use Rattle.pixel_round.specs.declared.units.Units.{Units}
use Rattle.dvi_commands.specs.Spelling.{PostPost}
use Rattle.dvi_commands.specs.ShortestSpelling.{shortest_spelling}
use Rattle.page_index.specs.Document.{last_bop, text_of}
use Rattle.sample_maker.specs.DviFile.{IsPageText, document_reading, document_text, filler_after, fonts_text, last_page, pages_reading, pages_text, postamble, preamble}
use Rattle.sample_maker.proofs.DviRead.{document_long, prefix_last, prefix_short, prefix_text, head, head_text, whole_text}

module _ (u : Units) (fonts : List (ℤ × FontKey)) (pages : List (List ℕ)) where
  pub head_made : (v a b : List ℕ) → v ≡ [] → a ≡ v ++ shortest_spelling (preamble u) → b ≡ a ++ fonts_text fonts → b ≡ text_of (head u fonts)
  head_made v a b ev ea eb = eb ∙ ap (λ t. t ++ fonts_text fonts) (ea ∙ ap (λ t. t ++ shortest_spelling (preamble u)) ev) ∙ sym (head_text u fonts)

  module _ (all : AllByRecursion IsPageText pages) (b : List ℕ) (eb : b ≡ text_of (head u fonts)) where
    pub pages_fit : length (document_text u fonts pages) < 2 ^ 31 → length b + length (pages_text (length b) 1 (negsuc 0) pages) < 2 ^ 31
    pages_fit fits =
        let same = ap (λ t. t ++ pages_text (length t) 1 (negsuc 0) pages) eb ∙ sym (prefix_text u fonts pages all) in
        omega (arith, ap length same, length-append b (pages_text (length b) 1 (negsuc 0) pages), prefix_short u fonts pages all, document_long u fonts pages, fits)

    module _ (d : List ℕ) (back : ℤ) (ed : d ≡ b ++ pages_text (length b) 1 (negsuc 0) pages) (eback : back ≡ last_page (length b) 1 (negsuc 0) pages) where
      prefix_made : d ≡ text_of (pages_reading u fonts pages)
      prefix_made = ed ∙ ap (λ t. t ++ pages_text (length t) 1 (negsuc 0) pages) eb ∙ sym (prefix_text u fonts pages all)

      last_made : back ≡ last_bop (pages_reading u fonts pages)
      last_made = eback ∙ ap (λ t. last_page (length t) 1 (negsuc 0) pages) eb ∙ sym (prefix_last u fonts pages all)

      pub post_fits : length (document_text u fonts pages) < 2 ^ 31 → length d < 2 ^ 31
      post_fits fits = omega (arith, ap length prefix_made, prefix_short u fonts pages all, document_long u fonts pages, fits)

      module _ (count post : ℕ) (stored_back : ℤ) (e f g h : List ℕ) (same_back : stored_back ≡ back) (ec : count ≡ length pages) (ep : post ≡ length d) (ee : e ≡ d ++ shortest_spelling (postamble u stored_back count)) (ef : f ≡ e ++ fonts_text fonts)
          (eg : g ≡ f ++ shortest_spelling (PostPost (pos post) 2)) (eh : h ≡ g ++ replicate (filler_after (length g)) 223) where
        end_made : g ≡ text_of (document_reading u fonts pages)
        end_made =
            let prefix = pages_reading u fonts pages in
            let closing : e ≡ text_of prefix ++ shortest_spelling (postamble u (last_bop prefix) (length pages)) =
            ee ∙ ap (λ t. t ++ shortest_spelling (postamble u stored_back count)) prefix_made
            ∙ ap (λ z. text_of prefix ++ shortest_spelling (postamble u z count)) (same_back ∙ last_made)
            ∙ ap (λ n. text_of prefix ++ shortest_spelling (postamble u (last_bop prefix) n)) ec in
            eg ∙ ap (λ t. t ++ shortest_spelling (PostPost (pos post) 2)) (ef ∙ ap (λ t. t ++ fonts_text fonts) closing)
            ∙ ap (λ n. ((text_of prefix ++ shortest_spelling (postamble u (last_bop prefix) (length pages))) ++ fonts_text fonts) ++ shortest_spelling (PostPost (pos n) 2)) (ep ∙ ap length prefix_made)
            ∙ sym (whole_text u fonts pages all)

        pub document_made : h ≡ document_text u fonts pages
        unfolding document_text
        document_made = eh ∙ ap (λ t. t ++ replicate (filler_after (length t)) 223) end_made
