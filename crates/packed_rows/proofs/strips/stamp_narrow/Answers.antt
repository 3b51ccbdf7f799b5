use Rattle.std.proofs.Common.{◌≡◌, ◌+◌, ◌*◌, ◌/◌, ◌%◌, ◌≤◌, ap, ◌∙◌, arith}
use Rattle.packed_rows.specs.Stamped.{strip_over, part_over}
use Rattle.packed_rows.proofs.Stamping.{stamped_same}
use Rattle.packed_rows.proofs.PartsOver.{part_set}
use Rattle.packed_rows.proofs.strips.stamp_narrow.Goals as goal

pub returns-clause-dots : goal.returns-clause-dots
returns-clause-dots c =
    let stride = c.args.size.stride in
    let kept = 8 * stride in
    let turn = c.args.column % 8 in
    let few : kept ≤ 56 = omega (arith, c.args.size.in_word) in
    (stamped_same c.args.lower.row_len 0 c.args.size.count
    (λ x y. strip_over c.args.upper.now (y * stride + 0) turn c.span_word.result (c.args.column / 8) x)
    (λ x y. part_over c.args.upper.now (y * stride) c.args.column 0 0 kept x) c.args.bytes.now c.stamp_strip.new.bytes
    (λ x y _.
    let row : y * stride + 0 ≡ y * stride = omega arith in
    part_set c.args.upper.now (y * stride + 0) turn turn 0 kept kept (c.args.column / 8) c.args.column 0 c.span_word.result x
    (omega arith) (omega arith) (omega arith) (omega (arith, few)) (omega (arith, few)) (omega arith) c.span_word.ensures
    ∙ ap (λ a. part_over c.args.upper.now a c.args.column 0 0 kept x) row)
    (record { len = c.stamp_strip.ensures.len; dots = c.stamp_strip.ensures.dots })).dots
