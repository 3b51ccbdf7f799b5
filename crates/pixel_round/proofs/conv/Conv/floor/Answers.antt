use Rattle.std.proofs.Common.{◌*◌, ◌/◌, ◌^◌, ◌<◌, w64, arith}
use Rattle.std.proofs.lemmas.Int.{to_z_pos}
use Rattle.pixel_round.proofs.Conversion.{floor_at_most}
use Rattle.pixel_round.proofs.conv.Conv.floor.Goals as goal

pub returns-clause-value : goal.returns-clause-value
returns-clause-value c =
    let most = floor_at_most c.self.inside.top c.self.inside.bottom c.args.size c.self.invariant.1 c.self.invariant.2 in
    let small : c.args.size * c.self.inside.top / c.self.inside.bottom < 2 ^ 63 = omega (arith, most) in
    rw (← c.self.view_is, c.quotient.ensures, c.from.ensures) (to_z_pos w64 _ small)

pub returns-clause-bounded : goal.returns-clause-bounded
returns-clause-bounded c =
    rw (← c.self.view_is) (floor_at_most c.self.inside.top c.self.inside.bottom c.args.size c.self.invariant.1 c.self.invariant.2)
