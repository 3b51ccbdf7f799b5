use Rattle.std.proofs.Common.{arith}
use Rattle.std.proofs.lemmas.Nat.{mul-le}
use Rattle.packed_rows.specs.Packing.{pixel}
use Rattle.pk_runs.proofs.Complete.{plain_none, plain_more, plain_all}
use Rattle.pk_runs.proofs.plain.paint_plain.Goals as goal

pub loop-place-init : goal.loop-place-init
loop-place-init c = plain_none (pixel c.args.bytes.now) c.args.w c.args.h c.args.bits c.requires.white

pub loop-place-preserved : goal.loop-place-preserved
loop-place-preserved c = plain_more (pixel c.args.bytes.now) c.args.w c.args.h c.loop-place.place c.loop-place.bits c.paint_place.new.bits c.requires.some c.paint_place.ensures c.loop-place.invariant

pub returns : goal.returns
returns c = plain_all c.args.bytes.now c.args.w c.args.h c.loop-place.place c.loop-place.bits c.loop-place-test.false (omega (arith, c.if-bytes-div_ceil.false, c.div_ceil.ensures)) c.loop-place.invariant

pub paint_place-requires-clause-few : goal.paint_place-requires-clause-few
paint_place-requires-clause-few c = omega (arith, c.loop-place-test.true, mul-le c.args.w c.args.h 16384 16384 c.requires.narrow c.requires.short)
