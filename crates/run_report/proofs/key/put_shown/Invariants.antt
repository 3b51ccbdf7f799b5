use Rattle.std.proofs.Common.{map, take}
use Rattle.run_report.specs.Keys.{shown_byte}
use Rattle.run_report.specs.Puts.{Puts}
use Rattle.run_report.proofs.key.put_shown.Given as goal

abbrev pub invariant-loop-byte : goal.invariant-loop-byte
invariant-loop-byte g l = Puts l.initial.gather l.gather (g.N.Output.written l.initial.notes) (g.N.Output.written l.notes)
    (g.N.Output.faults l.initial.notes) (g.N.Output.faults l.notes) (map shown_byte (take l.byte-index l.bytes))
