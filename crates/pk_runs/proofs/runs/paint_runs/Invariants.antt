use Rattle.std.proofs.Common.{length}
use Rattle.pk_runs.specs.Painting.{IsReady}
use Rattle.pk_runs.specs.Reading.{IsPaintedTo}
use Rattle.pk_runs.proofs.runs.paint_runs.Given as goal

abbrev pub invariant-loop-painter : goal.invariant-loop-painter
invariant-loop-painter l = record {
  painted : IsPaintedTo l.fn.bytes l.dyn_f l.fn.black l.w l.h l.nybbles l.painter;
  ready : IsReady l.painter;
}

abbrev pub decreases-loop-painter : goal.decreases-loop-painter
decreases-loop-painter l = length l.nybbles
