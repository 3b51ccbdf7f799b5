use Rattle.std.proofs.Common.{map, take}
use Rattle.std.specs.Arc.{arc_value}
use Rattle.std.specs.List.{flat_map}
use Rattle.run_report.specs.Puts.{Puts}
use Rattle.run_report.specs.Trace.{further_text}
use Rattle.run_report.proofs.trace.put_further.Given as goal

abbrev pub invariant-loop-key : goal.invariant-loop-key
invariant-loop-key g l = Puts l.initial.gather l.gather (g.N.Output.written l.initial.notes) (g.N.Output.written l.notes)
    (g.N.Output.faults l.initial.notes) (g.N.Output.faults l.notes) (flat_map further_text (map arc_value (take l.key-index l.keys)))
