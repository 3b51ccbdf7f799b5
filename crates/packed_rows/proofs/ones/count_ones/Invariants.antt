use Rattle.std.proofs.Common.{◌≡◌, ◌*◌, take, count_ones}
use Rattle.std.specs.List.{sum_by}
use Rattle.packed_rows.proofs.ones.count_ones.Given as goal

abbrev pub invariant-loop-i : goal.invariant-loop-i
invariant-loop-i l = l.count ≡ sum_by count_ones (take (8 * l.i) l.bytes)
