use Rattle.std.proofs.Common.{◌∙◌}
use Rattle.run_report.proofs.Joined.{puts_as}
use Rattle.run_report.proofs.puts.put_number.Goals as goal

pub returns : goal.returns
returns g c = puts_as (c.as_bytes.ensures.value ∙ c.format.ensures.text) c.put.ensures
