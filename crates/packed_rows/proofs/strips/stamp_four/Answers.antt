use Rattle.std.proofs.Common.{ℕ, ◌+◌, ◌*◌, arith}
use Rattle.packed_rows.specs.Stamped.{strip_over}
use Rattle.packed_rows.proofs.Stamping.{stamped_under}
use Rattle.packed_rows.proofs.strips.stamp_four.Goals as goal

pub returns-clause-dots : goal.returns-clause-dots
returns-clause-dots c =
    let strip = c.args.strip in
    let f = λ (x y : ℕ). strip_over c.args.upper.bytes.now (y * c.args.upper.stride + strip.from) strip.turn strip.mask strip.to x in
    let here = c.args.from in
    (stamped_under strip.lower.row_len here (here + 2) (here + 4) f c.args.bytes.now c.stamp_rows.new.bytes c.stamp_rows-2.new.bytes (omega arith) (omega arith)
    (record { len = c.stamp_rows-2.ensures.len; dots = c.stamp_rows-2.ensures.dots })
    (record { len = c.stamp_rows.ensures.len; dots = c.stamp_rows.ensures.dots })).dots
