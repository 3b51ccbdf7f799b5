use Rattle.std.proofs.Common.{rules, Some, refl, ap, ◌∙◌, arith}
use Rattle.std.specs.Prelude.{IsOk, is_ok}
use Rattle.font_decode.proofs.Trails.{trail_as, trail_more, trail_none}
use Rattle.page_workers.specs.Seats.{asked_at, trail_at}
use Rattle.page_workers.proofs.settling.settle_all.Goals as goal

pub loop-alloc-init : goal.loop-alloc-init
loop-alloc-init g c =
    let loads = g.F.FontSource.loads in
    let seat = Some c.args.seat.now in
    record {
      part = refl;
      fits = c.requires.fits;
      keys = c.requires.keys;
      room = omega arith;
      few = omega arith;
      never_falls = omega arith;
      asked = refl;
      trail = trail_none (Unit {0}) (asked_at seat) (trail_at (loads c.args.source.now) c.args.loads.now seat);
    }

pub loop-alloc-preserved : goal.loop-alloc-preserved
loop-alloc-preserved g c =
    let loads = g.F.FontSource.loads in
    let old = Some c.args.seat.now in
    let mid = Some c.loop-alloc.seat in
    let new = Some c.settle_some.new.seat in
    let was = c.loop-alloc.invariant in
    let is = c.settle_some.ensures in
    let fewer = c.in_ok-settle_some.ensures.fewer in
    record {
      part = is.part ∙ was.part;
      fits = is.fits;
      keys = is.keys;
      room = let a = was.room in let b = is.room in omega (arith, a, b, fewer);
      few = let a = was.few in omega (arith, a, fewer);
      never_falls = let a = was.never_falls in let b = is.cause.never_falls in omega (arith, a, b);
      asked = is.asked ∙ was.asked;
      trail = trail_more (Unit {0}) (asked_at old) (asked_at mid) (asked_at new) (trail_at (loads c.args.source.now) c.args.loads.now old) (trail_at (loads c.loop-alloc.source) c.loop-alloc.loads mid)
          (trail_at (loads c.settle_some.new.source) c.settle_some.new.loads new) was.trail
          (trail_as (Unit {0}) (IsOk c.settle_some.result) (asked_at mid) (asked_at new) (trail_at (loads c.loop-alloc.source) c.loop-alloc.loads mid)
          (trail_at (loads c.settle_some.new.source) c.settle_some.new.loads new) (λ u. ap (λ r. is_ok r) c.in_ok-settle_some.was) is.trail);
    }

pub returns-in_err-settle_some-clause-trail : goal.returns-in_err-settle_some-clause-trail
returns-in_err-settle_some-clause-trail g c =
    let loads = g.F.FontSource.loads in
    let old = Some c.args.seat.now in
    let mid = Some c.loop-alloc.seat in
    let new = Some c.settle_some.new.seat in
    let is = c.settle_some.ensures in
    trail_more _ (asked_at old) (asked_at mid) (asked_at new) (trail_at (loads c.args.source.now) c.args.loads.now old) (trail_at (loads c.loop-alloc.source) c.loop-alloc.loads mid)
    (trail_at (loads c.settle_some.new.source) c.settle_some.new.loads new) c.loop-alloc.invariant.trail
    (trail_as _ (IsOk c.settle_some.result) (asked_at mid) (asked_at new) (trail_at (loads c.loop-alloc.source) c.loop-alloc.loads mid)
    (trail_at (loads c.settle_some.new.source) c.settle_some.new.loads new) (λ w. search rules) is.trail)
