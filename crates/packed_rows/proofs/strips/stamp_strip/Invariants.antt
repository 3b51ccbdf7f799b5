use Rattle.std.proofs.Common.{◌+◌, ◌*◌}
use Rattle.packed_rows.specs.Stamped.{strip_over}
use Rattle.packed_rows.proofs.Stamping.{IsStamped}
use Rattle.packed_rows.proofs.strips.stamp_strip.Given as goal

abbrev pub invariant-loop-four : goal.invariant-loop-four
invariant-loop-four l = IsStamped l.strip.lower.row_len 0 (4 * l.four) (λ x y. strip_over l.upper.bytes.now (y * l.upper.stride + l.strip.from) l.strip.turn l.strip.mask l.strip.to x) l.initial.bytes l.bytes
