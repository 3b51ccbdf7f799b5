use Rattle.std.proofs.Common.{ap}
use Rattle.outside.specs.declared.keys.FontKey.{FontKey}
use Rattle.cache_core.specs.Views.{done_of}
use Rattle.run_report.specs.Trace.{act_text}
use Rattle.run_report.proofs.Joined.{puts_as, puts_twice}
use Rattle.run_report.proofs.trace.put_entry.Goals as goal

pub returns : goal.returns
returns g c =
    let act = puts_as (ap (λ (k : FontKey). act_text k (done_of c.args.entry.now.act)) c.deref.ensures) c.put_act.ensures in
    puts_twice (puts_twice (puts_twice c.put_number.ensures c.put.ensures) act) c.put-2.ensures
