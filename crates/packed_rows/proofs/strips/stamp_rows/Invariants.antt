use Rattle.std.proofs.Common.{◌+◌, ◌*◌}
use Rattle.packed_rows.specs.Stamped.{strip_over}
use Rattle.packed_rows.proofs.Stamping.{IsStamped}
use Rattle.packed_rows.proofs.strips.stamp_rows.Given as goal

abbrev pub invariant-loop-step : goal.invariant-loop-step
invariant-loop-step l = IsStamped l.strip.lower.row_len l.rows.from (l.rows.from + l.step) (λ x y. strip_over l.upper.bytes.now (y * l.upper.stride + l.strip.from) l.strip.turn l.strip.mask l.strip.to x) l.initial.bytes l.bytes
