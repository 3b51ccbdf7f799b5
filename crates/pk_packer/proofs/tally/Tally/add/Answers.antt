use Rattle.std.proofs.Common.{arith}
use Rattle.pk_packer.proofs.Lengthened.{added_to}
use Rattle.pk_packer.proofs.tally.Tally.add.Goals as goal

pub returns-clause-added : goal.returns-clause-added
returns-clause-added c = λ f within.
    added_to f c.args.count c.args.len _ _ _ (λ some. c.add_count.ensures.added some f within) (λ none. c.add_count.ensures.none none f within)
    (omega (arith, c.add_counts.ensures.added f within, c.number_counts.ensures.counts f within))
