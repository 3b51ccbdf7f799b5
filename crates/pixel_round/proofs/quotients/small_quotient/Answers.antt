use Rattle.std.proofs.Common.{arith}
use Rattle.pixel_round.proofs.Reciprocal.{by_reciprocal}
use Rattle.pixel_round.proofs.quotients.small_quotient.Goals as goal

pub returns : goal.returns
returns c = rw (c.from.ensures, c.from-2.ensures)
    (by_reciprocal c.args.top c.args.bottom c.args.reciprocal (omega (arith, c.requires.some)) c.requires.reciprocal c.requires.small)
