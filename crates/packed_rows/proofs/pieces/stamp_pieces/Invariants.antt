use Rattle.std.proofs.Common.{◌*◌, min}
use Rattle.packed_rows.specs.Stamped.{part_over}
use Rattle.packed_rows.proofs.Stamping.{IsStamped}
use Rattle.packed_rows.proofs.pieces.stamp_pieces.Given as goal

abbrev pub invariant-loop-piece : goal.invariant-loop-piece
invariant-loop-piece l = IsStamped l.lower.row_len 0 l.upper.count (λ x y. part_over l.upper.bytes.now (y * l.upper.stride) l.fn.across.start l.fn.across.skipped 0 (min (64 * l.piece) l.kept) x) l.initial.bytes l.bytes
