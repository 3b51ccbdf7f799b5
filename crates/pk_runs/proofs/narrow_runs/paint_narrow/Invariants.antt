use Rattle.std.proofs.Common.{length}
use Rattle.pk_runs.specs.Painting.{IsReady}
use Rattle.pk_runs.specs.Reading.{IsPaintedTo}
use Rattle.pk_runs.proofs.narrow_runs.paint_narrow.Given as goal

abbrev pub invariant-loop-nybbles : goal.invariant-loop-nybbles
invariant-loop-nybbles l = record {
  painted : IsPaintedTo l.fn.bytes l.dyn_f l.fn.black l.w l.h l.nybbles l.painter;
  ready : IsReady l.painter;
}

abbrev pub decreases-loop-nybbles : goal.decreases-loop-nybbles
decreases-loop-nybbles l = length l.nybbles
