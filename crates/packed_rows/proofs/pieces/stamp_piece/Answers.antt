use Rattle.std.proofs.Common.{ℕ, ◌+◌, ◌*◌, arith}
use Rattle.packed_rows.specs.Stamped.{part_over}
use Rattle.packed_rows.proofs.Stamping.{stamped_both}
use Rattle.packed_rows.proofs.PartsOver.{parts_joined}
use Rattle.packed_rows.proofs.pieces.stamp_piece.Goals as goal

pub returns-clause-dots : goal.returns-clause-dots
returns-clause-dots c =
    let p = c.args.piece in
    let part = λ (lo hi x y : ℕ). part_over c.args.upper.bytes.now (y * c.args.upper.stride + p.from) p.start p.skipped lo hi x in
    let border = c.min-border.result in
    (stamped_both p.lower.row_len 0 c.args.upper.count (part 0 border) (part border c.args.len) (part 0 c.args.len) c.args.bytes.now c.stamp_part.new.bytes c.stamp_part-2.new.bytes
    (λ x y _. parts_joined c.args.upper.bytes.now (y * c.args.upper.stride + p.from) p.start p.skipped 0 border c.args.len x (omega arith) (omega (arith, c.min-border.ensures)))
    (record { len = c.stamp_part-2.ensures.len; dots = c.stamp_part-2.ensures.dots })
    (record { len = c.stamp_part.ensures.len; dots = c.stamp_part.ensures.dots })).dots
