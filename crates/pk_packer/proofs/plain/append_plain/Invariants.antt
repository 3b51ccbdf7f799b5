use Rattle.std.proofs.Common.{◌≡◌, ◌*◌, ◌++◌, drop}
use Rattle.packed_rows.specs.Bitmap.{from_fn}
use Rattle.packed_rows.specs.Packing.{bits_value}
use Rattle.pk_packer.specs.Choice.{plain_pixels}
use Rattle.pk_packer.proofs.plain.append_plain.Given as goal

abbrev pub invariant-loop-i : goal.invariant-loop-i
invariant-loop-i l = l.out.items ≡ l.fn.out.items ++ from_fn l.i (λ i. bits_value 8 (drop (8 * i) (plain_pixels l.bits)))
