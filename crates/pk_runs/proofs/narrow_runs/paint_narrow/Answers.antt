use Rattle.std.proofs.Common.{arith}
use Rattle.std.proofs.lemmas.Result.{err_from_is_err_and}
use Rattle.pk_runs.proofs.Complete.{complete, painted_start, ready_start, resized, stuck_at_size}
use Rattle.pk_runs.proofs.narrow_runs.paint_narrow.Goals as goal

pub loop-nybbles-init : goal.loop-nybbles-init
loop-nybbles-init c = record {
  painted = painted_start c.args.bytes.now c.new-nybbles.result c.args.dyn_f c.args.black c.args.w c.args.h c.args.bits c.new-painter.result c.requires.some c.new-nybbles.ensures c.new-painter.ensures c.requires.white;
  ready = ready_start c.args.black c.args.bits c.new-painter.result c.new-painter.ensures;
}

pub returns-in_err-step : goal.returns-in_err-step
returns-in_err-step c =
    let p = err_from_is_err_and c.from_residual.result c.from_residual.ensures.1 in
    let d = c.loop-nybbles.invariant.painted in
    rw (p.1, p.2) (stuck_at_size c.args.bytes.now c.args.dyn_f c.args.w c.args.h c.loop-nybbles.painter.bits.width c.loop-nybbles.painter.bits.height c.in_err-step.field-0.0 d.drawn.wide d.drawn.high
    (c.in_err-step.ensures.painted c.args.bytes.now c.args.black (resized c.args.bytes.now c.args.dyn_f c.args.black c.args.w c.args.h c.loop-nybbles.painter.bits.width c.loop-nybbles.painter.bits.height c.loop-nybbles.nybbles c.loop-nybbles.painter d.drawn.wide d.drawn.high d)))

pub returns : goal.returns
returns c = rw c.finish.ensures (
  c.loop-nybbles.invariant.painted.drawn.wide,
  c.loop-nybbles.invariant.painted.drawn.high,
  complete c.args.bytes.now c.args.dyn_f c.args.black c.args.w c.args.h c.loop-nybbles.nybbles c.loop-nybbles.painter (omega (arith, c.loop-nybbles-test.false, c.row.ensures)) (omega (arith, c.loop-nybbles.invariant.ready.low, c.loop-nybbles.invariant.painted.drawn.high)) c.loop-nybbles.invariant.painted,
)
