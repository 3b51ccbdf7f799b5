use Rattle.std.proofs.Common.{take}
use Rattle.cache_core.specs.Views.{calls_of}
use Rattle.run_report.specs.Puts.{Puts}
use Rattle.run_report.specs.Trace.{trace_text}
use Rattle.run_report.proofs.trace.put_trace.Given as goal

abbrev pub invariant-loop-entry : goal.invariant-loop-entry
invariant-loop-entry g l = Puts l.initial.gather l.gather (g.N.Output.written l.initial.notes) (g.N.Output.written l.notes)
    (g.N.Output.faults l.initial.notes) (g.N.Output.faults l.notes) (trace_text (calls_of (take l.entry-index l.history)))
