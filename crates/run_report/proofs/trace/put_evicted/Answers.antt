use Rattle.std.proofs.Common.{map, sym, ap}
use Rattle.std.specs.Arc.{arc_value}
use Rattle.run_report.specs.Keys.{key_text}
use Rattle.run_report.specs.Trace.{evicted_text}
use Rattle.run_report.proofs.Joined.{puts_as, puts_twice}
use Rattle.run_report.proofs.trace.put_evicted.Goals as goal

pub returns-in-Some : goal.returns-in-Some
returns-in-Some g c =
    let first = puts_as (ap key_text c.deref.ensures) c.put_key.ensures in
    puts_as (ap (λ l. evicted_text (map arc_value l)) (sym c.in-Some.ensures.cases.0)) (puts_twice first c.put_further.ensures)
