use Rattle.std.proofs.Common.{[]}
use Rattle.job_spool.proofs.notes.print.Goals as goal

pub returns : goal.returns
returns g c =
    let start = g.N.Output.written c.args.notes.now in
    let before = g.N.Output.faults c.args.notes.now in
    c.finish.ensures start before _ (c.put_notes.ensures.puts start before [] (c.new-gather.ensures start before))
