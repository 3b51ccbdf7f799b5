use Rattle.std.proofs.Common.{arith}
use Rattle.sample_maker.proofs.Pairs.{last_greatest}
use Rattle.sample_maker.proofs.tfm.counts.Goals as goal

pub overflow_sub-codes : goal.overflow_sub-codes
overflow_sub-codes c = omega (arith, last_greatest c.args.widths.now 0 c.requires.rising c.requires.some)
