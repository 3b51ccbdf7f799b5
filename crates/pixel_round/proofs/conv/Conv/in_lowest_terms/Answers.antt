use Rattle.std.proofs.Common.{arith}
use Rattle.pixel_round.proofs.Equal.{lowered}
use Rattle.pixel_round.proofs.conv.Conv.in_lowest_terms.Goals as goal

pub with_products-requires : goal.with_products-requires
with_products-requires c =
    let low = lowered c.args.top c.args.bottom c.gcd-common.result c.from.result c.requires.above c.requires.below c.requires.bounded c.gcd-common.ensures.some c.gcd-common.ensures.divides c.from.ensures in
    record { above = low.above; below = low.below; bounded = low.bounded; small = omega (arith, low.small, c.requires.small) }

pub returns-clause-same : goal.returns-clause-same
returns-clause-same c =
    let low = lowered c.args.top c.args.bottom c.gcd-common.result c.from.result c.requires.above c.requires.below c.requires.bounded c.gcd-common.ensures.some c.gcd-common.ensures.divides c.from.ensures in
    rw c.with_products.ensures (record { first = low.below; second = c.requires.below; value = low.same })

pub returns-clause-usable : goal.returns-clause-usable
returns-clause-usable c =
    let low = lowered c.args.top c.args.bottom c.gcd-common.result c.from.result c.requires.above c.requires.below c.requires.bounded c.gcd-common.ensures.some c.gcd-common.ensures.divides c.from.ensures in
    rw c.with_products.ensures (record { top = low.above; bottom = low.below; bounded = low.bounded })
