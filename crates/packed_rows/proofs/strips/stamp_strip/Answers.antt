use Rattle.std.proofs.Common.{◌≡◌, ℕ, ◌+◌, ◌*◌, ◌/◌, arith}
use Rattle.packed_rows.specs.Stamped.{strip_over}
use Rattle.packed_rows.proofs.Stamping.{stamped_on, ended}
use Rattle.packed_rows.proofs.strips.stamp_strip.Goals as goal

pub loop-four-preserved : goal.loop-four-preserved
loop-four-preserved c =
    let strip = c.args.strip in
    let f = λ (x y : ℕ). strip_over c.args.upper.bytes.now (y * c.args.upper.stride + strip.from) strip.turn strip.mask strip.to x in
    let here = 4 * c.loop-four.four in
    let next : here + 4 ≡ 4 * (c.loop-four.four + 1) = omega arith in
    ended strip.lower.row_len 0 (here + 4) (4 * (c.loop-four.four + 1)) f c.args.bytes.now c.stamp_four.new.bytes next
    (stamped_on strip.lower.row_len 0 here (here + 4) f c.args.bytes.now c.loop-four.bytes c.stamp_four.new.bytes (omega arith) (omega arith)
    (record { len = c.stamp_four.ensures.len; dots = c.stamp_four.ensures.dots }) c.loop-four.invariant)

pub returns-clause-dots : goal.returns-clause-dots
returns-clause-dots c =
    let strip = c.args.strip in
    let f = λ (x y : ℕ). strip_over c.args.upper.bytes.now (y * c.args.upper.stride + strip.from) strip.turn strip.mask strip.to x in
    let here = 4 * (c.args.upper.count / 4) in
    let last : 4 * c.loop-four.four ≡ here = omega (arith, c.loop-four-test.false, c.loop-four.auto.four-end) in
    (stamped_on strip.lower.row_len 0 here c.args.upper.count f c.args.bytes.now c.loop-four.bytes c.stamp_rest.new.bytes (omega arith) (omega arith)
    (record { len = c.stamp_rest.ensures.len; dots = c.stamp_rest.ensures.dots })
    (ended strip.lower.row_len 0 (4 * c.loop-four.four) here f c.args.bytes.now c.loop-four.bytes last c.loop-four.invariant)).dots
