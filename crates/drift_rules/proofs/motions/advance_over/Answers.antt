use Rattle.std.proofs.Common.{arith, sym}
use Rattle.drift_rules.proofs.Held.{sum_kept}
use Rattle.drift_rules.proofs.motions.advance_over.Goals as goal

pub returns-clause-moved : goal.returns-clause-moved
returns-clause-moved c =
    let place = sum_kept c.args.now.h c.args.width (omega (arith, c.requires.held.h)) (omega (arith, c.requires.number)) in
    let dots = sum_kept c.args.now.hh c.args.dots (omega (arith, c.requires.held.hh)) (omega (arith, c.requires.dots)) in
    let held = rw place at c.if-not-is_within.ensures.value in
    (sym held, rw (place, dots) at c.at_column.ensures.moved)
