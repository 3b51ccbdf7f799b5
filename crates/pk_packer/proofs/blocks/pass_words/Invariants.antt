use Rattle.std.proofs.Common.{◌≡◌, ℕ, ◌+◌, ◌*◌, ◌<◌, ◌≤◌}
use Rattle.packed_rows.specs.Packing.{pixel}
use Rattle.pk_packer.proofs.blocks.pass_words.Given as goal

abbrev pub invariant-loop-i : goal.invariant-loop-i
invariant-loop-i l = (x : ℕ) → 8 * l.from ≤ x → x < 8 * (l.from + 8 * l.i) → pixel l.row x ≡ l.black
