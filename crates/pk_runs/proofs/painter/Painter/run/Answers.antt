use Rattle.std.proofs.Common.{arith}
use Rattle.pk_runs.proofs.Drawn.{runs_row, runs_last}
use Rattle.pk_runs.proofs.painter.Painter.run.Goals as goal

pub loop-left-preserved : goal.loop-left-preserved
loop-left-preserved c = runs_row c.args.n c.args.self.now c.loop-left.left c.left-piece.result c.loop-left.self c.paint.new.self c.end_row.new.self c.left-piece.ensures
    (omega (arith, c.loop-left-test.true, c.left.ensures, c.left-piece.ensures)) c.paint.ensures c.end_row.ensures c.loop-left.invariant

pub returns-clause-drawn : goal.returns-clause-drawn
returns-clause-drawn c = (runs_last c.args.n c.args.self.now c.loop-left.left c.loop-left.self c.end_run.new.self
    (omega (arith, c.loop-left-test.false, c.left.ensures)) c.end_run.ensures.none c.end_run.ensures.some c.loop-left.invariant).drawn
