use Rattle.std.proofs.Common.{◌≡◌, ℕ, ◌+◌, ◌*◌, arith}
use Rattle.packed_rows.specs.Stamped.{strip_over}
use Rattle.packed_rows.proofs.Stamping.{ended}
use Rattle.packed_rows.proofs.strips.stamp_rest.Goals as goal

pub returns-then-count-eq3-clause-dots : goal.returns-then-count-eq3-clause-dots
returns-then-count-eq3-clause-dots c =
    let strip = c.args.strip in
    let f = λ (x y : ℕ). strip_over c.args.upper.bytes.now (y * c.args.upper.stride + strip.from) strip.turn strip.mask strip.to x in
    let all : c.args.from + 3 ≡ c.args.upper.count = omega (arith, c.if-count-eq3.true) in
    (ended strip.lower.row_len c.args.from (c.args.from + 3) c.args.upper.count f c.args.bytes.now c.stamp_rows.new.bytes all
    (record { len = c.stamp_rows.ensures.len; dots = c.stamp_rows.ensures.dots })).dots

pub returns-then-count-eq2-clause-dots : goal.returns-then-count-eq2-clause-dots
returns-then-count-eq2-clause-dots c =
    let strip = c.args.strip in
    let f = λ (x y : ℕ). strip_over c.args.upper.bytes.now (y * c.args.upper.stride + strip.from) strip.turn strip.mask strip.to x in
    let all : c.args.from + 2 ≡ c.args.upper.count = omega (arith, c.if-count-eq2.true) in
    (ended strip.lower.row_len c.args.from (c.args.from + 2) c.args.upper.count f c.args.bytes.now c.stamp_rows-then-count-eq2.new.bytes all
    (record { len = c.stamp_rows-then-count-eq2.ensures.len; dots = c.stamp_rows-then-count-eq2.ensures.dots })).dots

pub returns-then-count-eq1-clause-dots : goal.returns-then-count-eq1-clause-dots
returns-then-count-eq1-clause-dots c =
    let strip = c.args.strip in
    let f = λ (x y : ℕ). strip_over c.args.upper.bytes.now (y * c.args.upper.stride + strip.from) strip.turn strip.mask strip.to x in
    let all : c.args.from + 1 ≡ c.args.upper.count = omega (arith, c.if-count-eq1.true) in
    (ended strip.lower.row_len c.args.from (c.args.from + 1) c.args.upper.count f c.args.bytes.now c.stamp_rows-then-count-eq1.new.bytes all
    (record { len = c.stamp_rows-then-count-eq1.ensures.len; dots = c.stamp_rows-then-count-eq1.ensures.dots })).dots
