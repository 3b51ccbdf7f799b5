use Rattle.std.proofs.Common.{◌≡◌, ◌*◌, ◌+◌, ◌/◌, ◌^◌, ◌<◌, w64, arith}
use Rattle.std.proofs.lemmas.Int.{to_z_pos}
use Rattle.pixel_round.proofs.Conversion.{nearest_at_most}
use Rattle.pixel_round.proofs.Reciprocal.{in_reach}
use Rattle.pixel_round.proofs.conv.Conv.nearest.Goals as goal

pub overflow_mul-twice : goal.overflow_mul-twice
overflow_mul-twice c = let r = in_reach c.self.inside.top c.self.inside.bottom c.self.inside.reciprocal c.args.size c.self.inside.twice_top c.self.inside.reach c.self.invariant.0 c.self.invariant.1 c.self.invariant.4 c.self.invariant.5 c.self.invariant.6 c.if-size-self.true in omega (arith, r.product, r.small, r.narrow)

pub overflow_add-twice : goal.overflow_add-twice
overflow_add-twice c = let r = in_reach c.self.inside.top c.self.inside.bottom c.self.inside.reciprocal c.args.size c.self.inside.twice_top c.self.inside.reach c.self.invariant.0 c.self.invariant.1 c.self.invariant.4 c.self.invariant.5 c.self.invariant.6 c.if-size-self.true in omega (arith, r.product, r.small, r.narrow)

pub small_quotient-requires-clause-small : goal.small_quotient-requires-clause-small
small_quotient-requires-clause-small c = let r = in_reach c.self.inside.top c.self.inside.bottom c.self.inside.reciprocal c.args.size c.self.inside.twice_top c.self.inside.reach c.self.invariant.0 c.self.invariant.1 c.self.invariant.4 c.self.invariant.5 c.self.invariant.6 c.if-size-self.true in omega (arith, r.product, r.small)

pub returns-then-size-self-clause-value : goal.returns-then-size-self-clause-value
returns-then-size-self-clause-value c =
    let r = in_reach c.self.inside.top c.self.inside.bottom c.self.inside.reciprocal c.args.size c.self.inside.twice_top c.self.inside.reach c.self.invariant.0 c.self.invariant.1 c.self.invariant.4 c.self.invariant.5 c.self.invariant.6 c.if-size-self.true in
    let most = nearest_at_most c.self.inside.top c.self.inside.bottom c.args.size c.self.invariant.1 c.self.invariant.2 in
    let small : (2 * (c.args.size * c.self.inside.top) + c.self.inside.bottom) / (2 * c.self.inside.bottom) < 2 ^ 63 = omega (arith, most) in
    rw (← c.self.view_is, c.small_quotient.ensures, r.product) (to_z_pos w64 _ small)

pub returns-then-size-self-clause-bounded : goal.returns-then-size-self-clause-bounded
returns-then-size-self-clause-bounded c =
    rw (← c.self.view_is) (nearest_at_most c.self.inside.top c.self.inside.bottom c.args.size c.self.invariant.1 c.self.invariant.2)

pub returns-clause-value : goal.returns-clause-value
returns-clause-value c =
    let most = nearest_at_most c.self.inside.top c.self.inside.bottom c.args.size c.self.invariant.1 c.self.invariant.2 in
    let small : (2 * (c.args.size * c.self.inside.top) + c.self.inside.bottom) / (2 * c.self.inside.bottom) < 2 ^ 63 = omega (arith, most) in
    let same : 2 * c.args.size * c.self.inside.top ≡ 2 * (c.args.size * c.self.inside.top) = omega arith in
    rw (← c.self.view_is, c.quotient.ensures, c.from.ensures, c.from-2.ensures, same) (to_z_pos w64 _ small)

pub returns-clause-bounded : goal.returns-clause-bounded
returns-clause-bounded c =
    rw (← c.self.view_is) (nearest_at_most c.self.inside.top c.self.inside.bottom c.args.size c.self.invariant.1 c.self.invariant.2)
