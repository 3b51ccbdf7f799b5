use Rattle.std.proofs.Common.{arith}
use Rattle.pk_packer.proofs.tally.Tally.add_count.Goals as goal

pub returns-clause-added : goal.returns-clause-added
returns-clause-added c = λ some f within. omega (arith, c.add_counts.ensures.added f within, c.repeat_counts.ensures.counts f within)
