use Rattle.std.proofs.Common.{arith, sym}
use Rattle.std.proofs.lemmas.Int.{ints}
use Rattle.drift_rules.proofs.Held.{kept, sum_kept}
use Rattle.drift_rules.proofs.motions.right.Goals as goal

pub returns-clause-moved : goal.returns-clause-moved
returns-clause-moved c =
    let by = kept c.args.by (omega (arith, c.requires.number)) in
    let space = kept c.args.space (omega (arith, ints, c.requires.space.some, c.requires.space.small)) in
    let place = sum_kept c.args.now.h c.args.by (omega (arith, c.requires.held.h)) (omega (arith, c.requires.number)) in
    let dots = kept c.column_right.result (omega (arith, c.column_right.ensures.bounded)) in
    let held = rw place at c.if-not-is_within.ensures.value in
    let value = rw (place, by, space) at c.column_right.ensures.value in
    (sym held, rw (place, dots, value) at c.at_column.ensures.moved)
