use Rattle.std.proofs.Common.{◌≡◌, ◌+◌, ◌++◌, negsuc, length, drop, map}
use Rattle.sample_maker.specs.DviFile.{last_page, pages_text}
use Rattle.sample_maker.proofs.dvi.append_pages.Given as goal

abbrev pub invariant-loop-i : goal.invariant-loop-i
invariant-loop-i l = record {
  text : l.fn.out.items ++ pages_text (length l.fn.out.items) 1 (negsuc 0) (map (λ page. page.items) l.pages)
      ≡ l.out.items ++ pages_text (length l.out.items) (l.i + 1) l.back (map (λ page. page.items) (drop l.i l.pages));
  last : last_page (length l.fn.out.items) 1 (negsuc 0) (map (λ page. page.items) l.pages)
      ≡ last_page (length l.out.items) (l.i + 1) l.back (map (λ page. page.items) (drop l.i l.pages));
}
