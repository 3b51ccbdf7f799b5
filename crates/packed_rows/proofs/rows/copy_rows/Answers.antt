use Rattle.std.proofs.Common.{◌+◌, ◌≤◌, arith}
use Rattle.std.proofs.Math.Nat.{mul-le-mul_right}
use Rattle.packed_rows.proofs.Copied.{copied_none, copied_more}
use Rattle.packed_rows.proofs.rows.copy_rows.Goals as goal

pub loop-to-init : goal.loop-to-init
loop-to-init c = copied_none c.args.stride c.args.rows.from c.args.bytes.now

pub copy_row-requires-clause-whole : goal.copy_row-requires-clause-whole
copy_row-requires-clause-whole c =
    let inside : c.loop-to.to + 1 ≤ c.args.rows.until = omega (arith, c.loop-to-test.true) in
    omega (arith, mul-le-mul_right c.args.stride inside, c.requires.whole, c.loop-to.invariant.len)

pub loop-to-preserved : goal.loop-to-preserved
loop-to-preserved c =
    let inside : c.loop-to.to + 1 ≤ c.args.rows.until = omega (arith, c.loop-to-test.true) in
    copied_more c.args.stride c.args.rows.from c.loop-to.to c.args.bytes.now c.loop-to.bytes c.copy_row.new.bytes (omega (arith, c.loop-to.auto.to))
    (omega (arith, mul-le-mul_right c.args.stride inside, c.requires.whole)) c.copy_row.ensures c.loop-to.invariant
