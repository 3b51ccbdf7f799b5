use Rattle.std.proofs.Common.{ap, map}
use Rattle.run_report.specs.Keys.{shown_byte}
use Rattle.run_report.proofs.Joined.{puts_as, puts_twice}
use Rattle.run_report.proofs.key.put_key.Goals as goal

pub returns : goal.returns
returns g c =
    let name = puts_as (ap (map shown_byte) c.bytes.ensures) c.put_shown.ensures in
    puts_twice (puts_twice (puts_twice (puts_twice name c.put.ensures) c.put_number.ensures) c.put-2.ensures) c.put_number-2.ensures
