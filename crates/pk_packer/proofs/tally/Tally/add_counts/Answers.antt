use Rattle.std.proofs.Common.{sym, arith}
use Rattle.pk_packer.proofs.Sums.{tally_more}
use Rattle.pk_packer.proofs.tally.Tally.add_counts.Goals as goal

pub returns-clause-added : goal.returns-clause-added
returns-clause-added c = λ f form.
    let more = tally_more c.args.self.now c.args.more.turn c.min-turn.result c.from.result c.from-2.result f (omega (arith, c.min-turn.ensures)) (omega (arith, c.min-turn.ensures)) (omega (arith, c.min-turn.ensures))
    (λ below. omega (arith, below, c.min-turn.ensures)) (λ above. omega (arith, above, c.min-turn.ensures)) form in
    rw (sym c.from.ensures, sym c.from-2.ensures) more
