use Rattle.std.proofs.Common.{◌≡◌, ◌∙◌, ℕ, suc, ℤ, List, [], ◌∷◌, Vec, Global, ap, length, map, refl, sym, subst, arith}
use Rattle.std.specs.List.{AllByRecursion}
use Rattle.std.proofs.lemmas.Result.{IfOk-weaker}
use Rattle.outside.specs.declared.keys.FontKey.{FontKey}
use Rattle.sample_maker.specs.DviFile.{IsPageText, document_text}
use Rattle.sample_maker.specs.Sample.{sample_document, sample_fonts, sample_pages, sample_units}
use Rattle.sample_maker.proofs.SampleMade.{document_short, pages_are, pages_count}
use Rattle.sample_maker.proofs.samples.sample_text.Goals as goal

as_many : (pages : List (Vec ℕ Global)) → length (map (λ page. page.items) pages) ≡ length pages
as_many [] = refl
as_many (p ∷ pages) = ap suc (as_many pages)

-- the texts of the pages are those of the sample
told : (n : ℕ) (pages made : List (Vec ℕ Global)) → pages ≡ made → map (λ page. page.items) made ≡ sample_pages n → map (λ page. page.items) pages ≡ sample_pages n
told n pages made same e = ap (map (λ page. page.items)) same ∙ e

pub document-requires-clause-few : goal.document-requires-clause-few
document-requires-clause-few c =
    let pages = told c.args.n c.deref.result.now c.in_ok-pages.pages.items c.deref.ensures.value c.in_ok-pages.ensures in
    omega (arith, as_many c.deref.result.now, ap length pages, pages_count c.args.n, c.requires.few)

pub document-requires-clause-pages : goal.document-requires-clause-pages
document-requires-clause-pages c =
    let pages = told c.args.n c.deref.result.now c.in_ok-pages.pages.items c.deref.ensures.value c.in_ok-pages.ensures in
    subst (AllByRecursion IsPageText) (sym pages) (pages_are c.args.n)

-- the bytes are those of the sample
same_text : (n : ℕ) (fonts : List (ℤ × FontKey)) (pages : List (List ℕ)) → fonts ≡ sample_fonts → pages ≡ sample_pages n → document_text sample_units fonts pages ≡ document_text sample_units sample_fonts (sample_pages n)
same_text n fonts pages ef ep = ap (λ (f : List (ℤ × FontKey)). document_text sample_units f pages) ef ∙ ap (document_text sample_units sample_fonts) ep

pub document-requires-clause-fits : goal.document-requires-clause-fits
document-requires-clause-fits c =
    let pages = told c.args.n c.deref.result.now c.in_ok-pages.pages.items c.deref.ensures.value c.in_ok-pages.ensures in
    let same = same_text c.args.n c.in_ok-fonts.fonts _ c.in_ok-fonts.ensures pages in
    omega (arith, ap length same, document_short c.args.n, c.requires.few)

pub returns : goal.returns
unfolding sample_document
returns c =
    let pages = told c.args.n c.deref.result.now c.in_ok-pages.pages.items c.deref.ensures.value c.in_ok-pages.ensures in
    record { document = IfOk-weaker c.document.result _ _ (λ text e. e ∙ same_text c.args.n c.in_ok-fonts.fonts _ c.in_ok-fonts.ensures pages) c.document.ensures.bytes }
