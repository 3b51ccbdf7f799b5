use Rattle.std.proofs.Common.{◌≡◌, ◌+◌, ◌<◌, ◌∷◌, [], ◌++◌, length, get_or, rules, subst, sym, ◌∙◌, arith}
use Rattle.rtrb.specs.Ring.{known_items}
use Rattle.page_workers.proofs.Taken.{after_look, nothing_taken, one_more, some_at_head}
use Rattle.page_workers.proofs.taking.take_meanwhile.Goals.{then-wait_for_begin+else-loop-taken-test, then-wait_for_begin+then-loop-taken-test+in_default, else-wait_for_begin}
use Rattle.page_workers.proofs.taking.take_meanwhile.Goals as goal

pub loop-taken-init : goal.loop-taken-init
loop-taken-init g c = record {
  most = omega arith;
  took = ([], nothing_taken g.W.PageTaker.takes c.args.pages.first c.args.inlets.now c.requires.unreceived c.args.taker.now c.args.out.now);
}

pub overflow_add-pages : goal.overflow_add-pages
overflow_add-pages g c = omega (arith, c.requires.fits, c.loop-taken-test.true)

pub take_one-requires : goal.take_one-requires
take_one-requires g c =
    some_at_head (c.args.pages.first + c.loop-taken.taken) (known_items (get_or c.wait_for_page.new.inlets c.in-Some.k c.index-inlets-k.result).results) (c.in-Some.ensures.found.1 c.index-inlets-k.result)

pub loop-taken-preserved : goal.loop-taken-preserved
loop-taken-preserved g c =
    let Takes = g.W.PageTaker.takes in
    let first = c.args.pages.first in
    let taken = c.loop-taken.taken in
    let start = c.args.inlets.now in
    let b = c.loop-taken.inlets in
    let now = c.wait_for_page.new.inlets in
    let inv = c.loop-taken.invariant in
    let same : length b ≡ length start = search rules in
    let as_long : length now ≡ length b = search rules in
    let some = after_look Takes first taken start b inv.took.0 c.args.taker.now c.args.out.now c.loop-taken.taker c.loop-taken.out inv.took.1 now
    (λ k d lt. c.in-Some.ensures.looked k d (subst (λ n. k < n) (sym same) lt)) in
    let inside : c.in-Some.k < length now = search rules in
    let one = c.take_one.ensures in
    record {
      most = omega (arith, c.loop-taken-test.true);
      took = (
        inv.took.0 ++ one.0 ∷ [],
        one_more Takes first taken start now inv.took.0 c.args.taker.now c.args.out.now c.loop-taken.taker c.loop-taken.out some (as_long ∙ same) c.in-Some.k inside c.index-inlets-k.result c.take_one.new.inlet one.0 one.1
            (c.in-Some.ensures.found.1 c.index-inlets-k.result) c.take_one.new.taker c.take_one.new.out one.2,
      );
    }

pub returns-clause-took : goal.returns-clause-took
returns-clause-took g c = elim c.if-wait_for_begin.branch [
  | then-wait_for_begin+else-loop-taken-test w ↦ rw (w.inlets-is, w.taker-is, w.out-is, w.taken-is) w.loop-taken.invariant.took
  | then-wait_for_begin+then-loop-taken-test+in_default w ↦
      let b = w.loop-taken.inlets in
      let same : length b ≡ length c.args.inlets.now = search rules in
      let took = w.loop-taken.invariant.took in
      rw (w.inlets-is, w.taker-is, w.out-is, w.taken-is) (
        took.0,
        after_look g.W.PageTaker.takes c.args.pages.first w.loop-taken.taken c.args.inlets.now b took.0 c.args.taker.now c.args.out.now w.loop-taken.taker w.loop-taken.out took.1 w.wait_for_page.new.inlets
            (λ k d lt. w.wait_for_page.ensures.looked k d (subst (λ n. k < n) (sym same) lt)),
      )
  | else-wait_for_begin w ↦ rw (w.inlets-is, w.taker-is, w.out-is, w.taken-is) ([], nothing_taken g.W.PageTaker.takes c.args.pages.first c.args.inlets.now c.requires.unreceived c.args.taker.now c.args.out.now)
]
