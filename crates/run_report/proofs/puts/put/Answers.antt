use Rattle.std.proofs.Common.{refl}
use Rattle.run_report.proofs.puts.put.Goals as goal

pub returns : goal.returns
returns g c = record { puts = λ start count text held. c.put.ensures start count text _ held refl }
