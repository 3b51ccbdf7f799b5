use Rattle.std.proofs.Common.{◌≡◌, ◌^◌, ◌+◌, ◌<◌, ◌++◌, pos, length, to_z, w32, arith}
use Rattle.std.proofs.lemmas.Int.{ints}
use Rattle.sample_maker.specs.DviFile.{page_bytes}
use Rattle.sample_maker.proofs.Appended.{prefix_fits, one_page, one_pointer}
use Rattle.sample_maker.proofs.dvi.append_pages.Goals as goal

pub overflow_cast-at : goal.overflow_cast-at
overflow_cast-at c =
    let fits : length c.loop-i.out.items < 2 ^ 31 = prefix_fits _ _ _ _ _ c.loop-i.invariant.text c.requires.fits in
    omega (arith, ints, fits, c.loop-i.out.ok.0)

pub loop-i-preserved : goal.loop-i-preserved
loop-i-preserved c =
    let fits : length c.loop-i.out.items < 2 ^ 31 = prefix_fits _ _ _ _ _ c.loop-i.invariant.text c.requires.fits in
    let at : to_z w32 c.len-at.result ≡ pos (length c.loop-i.out.items) = omega (arith, ints, fits, c.loop-i.out.ok.0) in
    let page : c.append_page.new.out.items ≡ c.loop-i.out.items ++ page_bytes (c.loop-i.i + 1) (to_z w32 c.loop-i.back-bits) c.index-pages-i.result.items = cc (c.in_ok-append_page.ensures, c.deref.ensures.value) in
    let text = one_page c.loop-i.out.items c.append_page.new.out.items (c.loop-i.i + 1) (to_z w32 c.loop-i.back-bits) (to_z w32 c.len-at.result) c.args.pages.now c.loop-i.i c.index-pages-i.result c.loop-i-test.true c.index-pages-i.is page at _ c.loop-i.invariant.text in
    let last = one_pointer c.loop-i.out.items c.append_page.new.out.items (c.loop-i.i + 1) (to_z w32 c.loop-i.back-bits) (to_z w32 c.len-at.result) c.args.pages.now c.loop-i.i c.index-pages-i.result c.loop-i-test.true c.index-pages-i.is page at _ c.loop-i.invariant.last in
    record { text = text; last = last }
