use Rattle.std.proofs.Common.{take}
use Rattle.page_draw.specs.Lacks.{values_of}
use Rattle.run_report.specs.Puts.{Puts}
use Rattle.dvi_run.specs.Lines.{lack_lines}
use Rattle.dvi_run.proofs.note.put_lacks.Given as goal

abbrev pub invariant-loop-lack : goal.invariant-loop-lack
invariant-loop-lack g l = Puts l.initial.gather l.gather (g.N.Output.written l.initial.notes) (g.N.Output.written l.notes)
    (g.N.Output.faults l.initial.notes) (g.N.Output.faults l.notes) (lack_lines l.page (values_of (take l.lack-index l.lacks)))
