use Rattle.std.proofs.Common.{◌≡◌, ◌+◌, ◌-◌, ◌*◌, ◌≤◌, length, arith}
use Rattle.std.proofs.Math.Nat.{mul-le-mul_right}
use Rattle.packed_rows.proofs.Blackened.{blackened_none, blackened_more}
use Rattle.packed_rows.proofs.rows.blacken_bytes.Goals as goal

pub loop-y-init : goal.loop-y-init
loop-y-init c = blackened_none c.args.stride c.args.columns.from c.args.columns.until c.args.rows.from c.args.bytes.now

pub loop-y-preserved : goal.loop-y-preserved
loop-y-preserved c =
    let fit : c.loop-y.y * c.args.stride + c.args.stride ≤ length c.loop-y.bytes = omega (arith, mul-le-mul_right c.args.stride c.loop-y-test.true) in
    let whole : c.loop-y.y * c.args.stride + c.args.stride - c.loop-y.y * c.args.stride ≡ c.args.stride = omega arith in
    blackened_more c.args.stride c.args.columns.from c.args.columns.until c.args.rows.from c.loop-y.y _ c.args.bytes.now c.loop-y.bytes c.blacken.new.row whole c.loop-y.auto.y fit c.blacken.ensures.len c.blacken.ensures.pixels c.blacken.ensures.padded c.loop-y.invariant
