use Rattle.std.proofs.Common.{◌≡◌, ℕ, ◌-◌, ◌*◌, ◌<◌, ◌≤◌, length}
use Rattle.packed_rows.specs.Packing.{pixel}
use Rattle.pk_packer.proofs.blocks.pass_256.Given as goal

abbrev pub invariant-loop-at : goal.invariant-loop-at
invariant-loop-at l = record {
  least : l.from ≤ l.at;
  most : l.at ≤ length l.row;
  same : (x : ℕ) → 8 * l.from ≤ x → x < 8 * l.at → pixel l.row x ≡ l.black;
}

abbrev pub decreases-loop-at : goal.decreases-loop-at
decreases-loop-at l = length l.row - l.at
