use Rattle.std.proofs.Common.{[]}
use Rattle.dvi_run.proofs.EndAfterReport.{line_printed}
use Rattle.job_spool.proofs.notes.print_usage.Goals as goal

pub returns : goal.returns
returns g c =
    let start = g.N.Output.written c.args.notes.now in
    let before = g.N.Output.faults c.args.notes.now in
    line_printed _ _ _ _ _ c.finish.result (c.finish.ensures start before _ (c.put.ensures.puts start before [] (c.new-gather.ensures start before)))
