use Rattle.std.proofs.Common.{◌≡◌, ℕ, ◌+◌, ◌<◌, get_or, length}
use Rattle.pk_packer.specs.Counts.{nybbles_past}
use Rattle.pk_packer.proofs.tally.Tally.lengths.Given as goal

abbrev pub invariant-loop-f : goal.invariant-loop-f
invariant-loop-f l = record {
  all : length l.counts ≡ 14;
  len : l.len ≡ nybbles_past l.self l.f;
  done : (k : ℕ) → k < l.f → get_or l.counts k 0 ≡ nybbles_past l.self (k + 1);
}
