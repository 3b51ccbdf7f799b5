use Rattle.std.proofs.Common.{◌≡◌, ◌≤◌, ℕ, suc, List, [], ◌∷◌, ap, Vec, Global, length, map, refl, sym, subst, arith}
use Rattle.std.proofs.lemmas.Int.{ints}
use Rattle.dvi_commands.proofs.Motions.{stored}
use Rattle.page_index.specs.Document.{IsDocument}
use Rattle.page_index.specs.Limits.{MAX_DOCUMENT_LENGTH}
use Rattle.sample_maker.specs.DviFile.{document_reading, document_text}
use Rattle.sample_maker.proofs.DviMade.{document_made, head_made, pages_fit, post_fits}
use Rattle.sample_maker.proofs.DviRead.{gives_back}
use Rattle.sample_maker.proofs.DviSound.{is_document}
use Rattle.sample_maker.proofs.dvi.document.Goals as goal

texts : List (Vec ℕ Global) → List (List ℕ)
texts pages = map (λ page. page.items) pages

as_many : (pages : List (Vec ℕ Global)) → length (texts pages) ≡ length pages
unfolding texts
as_many [] = refl
as_many (p ∷ pages) = ap suc (as_many pages)

pub append_pages-requires-clause-fits : goal.append_pages-requires-clause-fits
unfolding texts
append_pages-requires-clause-fits c =
    let u = c.args.units.now in
    let fonts = c.args.fonts.now in
    let pages = texts c.args.pages.now in
    let head = head_made u fonts pages _ _ _ c.new-out.ensures.items c.in_ok-append_preamble.ensures c.in_ok-append_fonts.ensures.appended in
    pages_fit u fonts pages c.requires.pages _ head c.requires.fits

pub append_post_post-requires : goal.append_post_post-requires
unfolding texts
append_post_post-requires c =
    let u = c.args.units.now in
    let fonts = c.args.fonts.now in
    let pages = texts c.args.pages.now in
    let head = head_made u fonts pages _ _ _ c.new-out.ensures.items c.in_ok-append_preamble.ensures c.in_ok-append_fonts.ensures.appended in
    let fits = post_fits u fonts pages c.requires.pages _ head _ c.in_ok-back.back c.in_ok-back.ensures.pages c.in_ok-back.ensures.last c.requires.fits in
    omega (arith, fits, c.len-post.ensures, c.append_pages.new.out.ok.0)

pub returns-clause-bytes : goal.returns-clause-bytes
unfolding texts
returns-clause-bytes c =
    let u = c.args.units.now in
    let fonts = c.args.fonts.now in
    let pages = texts c.args.pages.now in
    let head = head_made u fonts pages _ _ _ c.new-out.ensures.items c.in_ok-append_preamble.ensures c.in_ok-append_fonts.ensures.appended in
    let post : c.len-post.result ≡ length c.append_pages.new.out.items = omega (arith, c.len-post.ensures, c.append_pages.new.out.ok.0) in
    let back : stored c.in_ok-back.back ≡ c.in_ok-back.back = omega (arith, ints) in
    document_made u fonts pages c.requires.pages _ head _ c.in_ok-back.back c.in_ok-back.ensures.pages c.in_ok-back.ensures.last (length c.args.pages.now) c.len-post.result (stored c.in_ok-back.back) _ _ _ _ back (sym (as_many c.args.pages.now)) post c.in_ok-append_post.ensures c.in_ok-append_fonts-2.ensures.appended c.in_ok-append_post_post.ensures c.in_ok-append_filler.ensures

pub returns-clause-read_again : goal.returns-clause-read_again
unfolding texts
returns-clause-read_again c = λ res r is.
    gives_back c.args.units.now c.args.fonts.now (texts c.args.pages.now) c.requires.units.num.1 c.requires.units.den.1 c.requires.units.mag.1 c.in_ok-append_fonts.ensures.spelled c.requires.apart (omega (arith, as_many c.args.pages.now, c.requires.few)) c.requires.pages c.requires.fits
    res r (subst (λ (bytes : List ℕ). IsDocument res bytes r) (returns-clause-bytes c) is)

pub returns-clause-is_document : goal.returns-clause-is_document
unfolding texts
returns-clause-is_document c = λ res scale define fits.
    let pages = texts c.args.pages.now in
    let same = returns-clause-bytes c in
    let short : length (document_text c.args.units.now c.args.fonts.now pages) ≤ MAX_DOCUMENT_LENGTH = subst (λ (t : List ℕ). length t ≤ MAX_DOCUMENT_LENGTH) same fits in
    subst (λ (t : List ℕ). IsDocument res t (document_reading c.args.units.now c.args.fonts.now pages)) (sym same)
    (is_document c.args.units.now c.args.fonts.now pages c.requires.units c.requires.fonts c.in_ok-append_fonts.ensures.spelled c.requires.apart (omega (arith, as_many c.args.pages.now, c.requires.few)) c.requires.pages short res scale define)
