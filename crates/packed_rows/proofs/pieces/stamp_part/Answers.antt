use Rattle.std.proofs.Common.{◌≡◌, ℕ, ◌+◌, ◌-◌, ◌*◌, ◌/◌, ◌%◌, ◌≤◌, arith}
use Rattle.packed_rows.specs.Stamped.{strip_over, part_over}
use Rattle.packed_rows.proofs.Stamping.{stamped_same}
use Rattle.packed_rows.proofs.PartsOver.{part_set}
use Rattle.packed_rows.proofs.pieces.stamp_part.Goals as goal

pub returns-clause-dots : goal.returns-clause-dots
returns-clause-dots c =
    let p = c.args.piece in
    let part = c.args.part in
    let above = λ (y : ℕ). y * c.args.upper.stride + p.from in
    let column = p.start + part.from - p.skipped in
    let turn = p.start % 64 in
    let mask = c.span_word.result in
    let right : p.skipped ≤ p.start + part.from = c.if-first-piece.false in
    let begin : column % 64 ≡ (turn + part.from) % 64 = omega (arith, right, p.aligned) in
    let same_word : (p.start + part.from) % 64 ≡ column % 64 = omega (arith, right, p.aligned) in
    let count : part.until ≡ part.from + (part.until - part.from) = omega (arith, c.requires.ordered) in
    let one : column % 64 + (part.until - part.from) ≤ 64 = omega (arith, c.requires.one_word, same_word) in
    let place : 8 * (8 * (column / 64)) + column % 64 + p.skipped ≡ p.start + part.from = omega (arith, right) in
    (stamped_same p.lower.row_len 0 c.args.upper.count
    (λ x y. strip_over c.args.upper.bytes.now (above y) turn mask (8 * (column / 64)) x)
    (λ x y. part_over c.args.upper.bytes.now (above y) p.start p.skipped part.from part.until x)
    c.args.bytes.now c.stamp_strip.new.bytes
    (λ x y _. part_set c.args.upper.bytes.now (above y) turn (column % 64) part.from part.until (part.until - part.from) (8 * (column / 64)) p.start p.skipped mask x
    (omega arith) begin count c.requires.word one place c.span_word.ensures)
    (record { len = c.stamp_strip.ensures.len; dots = c.stamp_strip.ensures.dots })).dots
