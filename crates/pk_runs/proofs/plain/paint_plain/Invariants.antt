use Rattle.packed_rows.specs.Packing.{pixel}
use Rattle.pk_runs.proofs.Complete.{IsPlainTo}
use Rattle.pk_runs.proofs.plain.paint_plain.Given as goal

abbrev pub invariant-loop-place : goal.invariant-loop-place
invariant-loop-place l = IsPlainTo (pixel l.bytes) l.w l.h l.place l.bits
