use Rattle.std.proofs.Common.{◌*◌, ◌^◌, ◌<◌, w64, arith}
use Rattle.std.specs.Int.{div_ceil}
use Rattle.std.proofs.lemmas.Int.{to_z_pos}
use Rattle.pixel_round.proofs.Conversion.{least_at_most, least_has_a_dot}
use Rattle.pixel_round.proofs.conv.Conv.least.Goals as goal

pub returns-clause-value : goal.returns-clause-value
returns-clause-value c =
    let most = least_at_most c.self.inside.top c.self.inside.bottom c.args.size c.self.invariant.1 c.self.invariant.2 in
    let small : div_ceil (c.args.size * c.self.inside.top) c.self.inside.bottom < 2 ^ 63 = omega (arith, most) in
    rw (← c.self.view_is, c.quotient_up.ensures, c.from.ensures) (to_z_pos w64 _ small)

pub returns-clause-bounded : goal.returns-clause-bounded
returns-clause-bounded c =
    rw (← c.self.view_is) (least_at_most c.self.inside.top c.self.inside.bottom c.args.size c.self.invariant.1 c.self.invariant.2)

pub returns-clause-has_a_dot : goal.returns-clause-has_a_dot
returns-clause-has_a_dot c =
    rw (← c.self.view_is) (least_has_a_dot c.self.inside.top c.self.inside.bottom c.args.size c.self.invariant.0 c.self.invariant.1)
