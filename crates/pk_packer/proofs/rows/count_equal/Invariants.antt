use Rattle.std.proofs.Common.{◌≡◌, ℕ, ◌+◌, ◌-◌, ◌<◌, ◌≤◌}
use Rattle.pk_packer.specs.Places.{row_of}
use Rattle.pk_packer.specs.Written.{pixel_rows}
use Rattle.pk_packer.proofs.rows.count_equal.Given as goal

abbrev pub invariant-loop-n : goal.invariant-loop-n
invariant-loop-n l = record {
  fit : l.row + 1 + l.n ≤ l.bits.height;
  same : (k : ℕ) → k < l.n → row_of (pixel_rows l.bits) (l.row + 1 + k) ≡ row_of (pixel_rows l.bits) l.row;
  none : l.n ≡ 0 → row_of (pixel_rows l.bits) l.row ≡ row_of (pixel_rows l.bits) (l.row + 1) → ⊥;
}

abbrev pub decreases-loop-n : goal.decreases-loop-n
decreases-loop-n l = l.bits.height - l.n
