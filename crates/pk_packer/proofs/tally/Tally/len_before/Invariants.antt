use Rattle.std.proofs.Common.{◌≡◌}
use Rattle.pk_packer.specs.Counts.{sum_below, taken}
use Rattle.pk_packer.proofs.tally.Tally.len_before.Given as goal

abbrev pub invariant-loop-turn : goal.invariant-loop-turn
invariant-loop-turn l = l.len ≡ sum_below (taken l.self 0) l.turn
