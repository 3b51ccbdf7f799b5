use Rattle.std.proofs.Common.{arith}
use Rattle.vf_reader.proofs.Kept.{other_kept}
use Rattle.vf_reader.proofs.span_map.SpanMap.put.Goals as goal

pub returns-in_ok-insert-clause-put : goal.returns-in_ok-insert-clause-put
returns-in_ok-insert-clause-put c = λ k.
    rw (← c.self.view_is)
    (other_kept c.args.c k c.args.span c.self.inside.table.items c.self.inside.others.entries c.insert.new.self.entries (omega arith) (c.in_ok-insert.ensures.updates.0 k))
