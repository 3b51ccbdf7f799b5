use Rattle.std.proofs.Common.{◌≡◌, ◌+◌, ◌-◌, ◌*◌, min, ap, arith}
use Rattle.packed_rows.specs.Stamped.{part_over}
use Rattle.packed_rows.proofs.Stamping.{stamped_nothing, stamped_both, stamped_same}
use Rattle.packed_rows.proofs.PartsOver.{part_empty, left_out, piece_added}
use Rattle.packed_rows.proofs.pieces.stamp_pieces.Goals as goal

pub loop-piece-init : goal.loop-piece-init
loop-piece-init c =
    let upper = c.args.upper in
    let across = c.args.across in
    let words = c.div_ceil-words.result in
    let start = across.start + 64 * words - across.skipped in
    let moved : start + across.skipped ≡ across.start + 64 * words = omega (arith, c.div_ceil-words.ensures) in
    stamped_nothing c.args.lower.row_len 0 upper.count _ c.args.bytes.now
    (λ x y. part_empty upper.bytes.now (y * upper.stride) across.start across.skipped 0 _ x
    (left_out across.start across.skipped words start c.saturating_sub-first.result c.args.kept moved c.saturating_sub-first.ensures))

pub loop-piece-preserved : goal.loop-piece-preserved
loop-piece-preserved c =
    let upper = c.args.upper in
    let across = c.args.across in
    let words = c.div_ceil-words.result in
    let p = c.loop-piece.piece in
    let start = across.start + 64 * words - across.skipped in
    let moved : start + 64 * p + across.skipped ≡ across.start + 64 * p + 64 * words = omega (arith, c.div_ceil-words.ensures) in
    stamped_both c.args.lower.row_len 0 upper.count
    (λ x y. part_over upper.bytes.now (y * upper.stride) across.start across.skipped 0 (min (64 * p) c.args.kept) x)
    (λ x y. part_over upper.bytes.now (y * upper.stride + 8 * p) (start + 64 * p) (64 * words) 0 c.min-len.result x)
    (λ x y. part_over upper.bytes.now (y * upper.stride) across.start across.skipped 0 (min (64 * (p + 1)) c.args.kept) x)
    c.args.bytes.now c.loop-piece.bytes c.stamp_piece.new.bytes
    (λ x y _. piece_added upper.bytes.now (y * upper.stride) across.start across.skipped words (start + 64 * p) p c.min-len.result c.args.kept x (omega (arith, c.loop-piece-test.true, c.div_ceil-piece-end.ensures)) c.min-len.ensures moved)
    (record { len = c.stamp_piece.ensures.len; dots = c.stamp_piece.ensures.dots }) c.loop-piece.invariant

pub returns-clause-dots : goal.returns-clause-dots
returns-clause-dots c =
    let upper = c.args.upper in
    let across = c.args.across in
    let all : min (64 * c.loop-piece.piece) c.args.kept ≡ c.args.kept = omega (arith, c.loop-piece-test.false, c.div_ceil-piece-end.ensures) in
    (stamped_same c.args.lower.row_len 0 upper.count
    (λ x y. part_over upper.bytes.now (y * upper.stride) across.start across.skipped 0 (min (64 * c.loop-piece.piece) c.args.kept) x)
    (λ x y. part_over upper.bytes.now (y * upper.stride) across.start across.skipped 0 c.args.kept x)
    c.args.bytes.now c.loop-piece.bytes (λ x y _. ap (λ n. part_over upper.bytes.now (y * upper.stride) across.start across.skipped 0 n x) all) c.loop-piece.invariant).dots
