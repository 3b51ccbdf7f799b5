use Rattle.std.proofs.Common.{[]}
use Rattle.dvi_run.proofs.note.print_lacks.Goals as goal

pub returns : goal.returns
returns g c =
    let start = g.N.Output.written c.args.notes.now in
    let before = g.N.Output.faults c.args.notes.now in
    c.finish.ensures start before _ (c.put_lacks.ensures.puts start before [] (c.new-gather.ensures start before))
