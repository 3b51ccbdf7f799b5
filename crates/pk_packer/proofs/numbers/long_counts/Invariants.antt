use Rattle.std.proofs.Common.{◌≡◌, ◌-◌, ◌^◌, ◌≤◌}
use Rattle.pk_packer.proofs.numbers.long_counts.Given as goal

abbrev pub invariant-loop-beyond : goal.invariant-loop-beyond
invariant-loop-beyond l = record {
  some : 2 ≤ l.digits;
  few : l.digits ≤ 8;
  power : l.beyond ≡ 16 ^ l.digits;
  large : 256 ≤ l.beyond;
  low : 16 ^ (l.digits - 1) ≤ l.value;
}

abbrev pub decreases-loop-beyond : goal.decreases-loop-beyond
decreases-loop-beyond l = 8 - l.digits
