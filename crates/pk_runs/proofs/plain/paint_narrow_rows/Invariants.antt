use Rattle.std.proofs.Common.{◌*◌}
use Rattle.packed_rows.specs.Packing.{pixel}
use Rattle.pk_runs.proofs.Complete.{IsPlainTo}
use Rattle.pk_runs.proofs.plain.paint_narrow_rows.Given as goal

abbrev pub invariant-loop-y : goal.invariant-loop-y
invariant-loop-y l = IsPlainTo (pixel l.bytes) l.w l.h (l.y * l.w) l.bits
