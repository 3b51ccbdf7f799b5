use Rattle.std.proofs.Common.{◌∙◌, arith}
use Rattle.pk_packer.proofs.InTwoParts.{more_by, repeat_long}
use Rattle.pk_packer.proofs.numbers.repeat_counts.Goals as goal

pub returns-clause-counts : goal.returns-clause-counts
returns-clause-counts c = λ f form.
    more_by f c.number_counts-counts.result.turn c.number_counts-counts.result.before c.number_counts-counts.result.from _ (c.number_counts-counts.ensures.counts f form)
    ∙ repeat_long f c.args.n (omega (arith, c.requires.some, c.if-n-eq1.false))
