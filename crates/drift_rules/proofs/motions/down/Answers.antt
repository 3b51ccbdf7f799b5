use Rattle.std.proofs.Common.{arith, sym}
use Rattle.std.proofs.lemmas.Int.{ints}
use Rattle.drift_rules.proofs.Held.{kept, sum_kept}
use Rattle.drift_rules.proofs.motions.down.Goals as goal

pub returns-clause-moved : goal.returns-clause-moved
returns-clause-moved c =
    let by = kept c.args.by (omega (arith, c.requires.number)) in
    let space = kept c.args.space (omega (arith, ints, c.requires.space.some, c.requires.space.small)) in
    let place = sum_kept c.args.now.v c.args.by (omega (arith, c.requires.held.v)) (omega (arith, c.requires.number)) in
    let dots = kept c.row_down.result (omega (arith, c.row_down.ensures.bounded)) in
    let held = rw place at c.if-not-is_within.ensures.value in
    let value = rw (place, by, space) at c.row_down.ensures.value in
    (sym held, rw (place, dots, value) at c.at_row.ensures.moved)
