use Rattle.std.proofs.Common.{[]}
use Rattle.dvi_run.proofs.EndAfterReport.{line_printed}
use Rattle.dvi_run.proofs.report.print_line.Goals as goal

pub returns-clause-printed : goal.returns-clause-printed
returns-clause-printed g c =
    let start = g.N.Output.written c.args.notes.now in
    let before = g.N.Output.faults c.args.notes.now in
    line_printed _ _ _ _ _ c.finish.result (c.finish.ensures start before _ (c.put_end.ensures.puts start before [] (c.new-gather.ensures start before)))
