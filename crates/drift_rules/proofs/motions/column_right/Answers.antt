use Rattle.std.proofs.Common.{arith}
use Rattle.std.proofs.lemmas.Int.{ints}
use Rattle.drift_rules.proofs.Held.{kept, anew, grown}
use Rattle.drift_rules.proofs.motions.column_right.Goals as goal

pub returns-then-is_word_space-clause-value : goal.returns-then-is_word_space-clause-value
returns-then-is_word_space-clause-value c =
    let by = kept c.args.by (omega (arith, c.requires.number)) in
    let space = kept c.args.space (omega (arith, ints, c.requires.space.some, c.requires.space.small)) in
    let place = kept c.args.h (omega (arith, c.requires.h)) in
    let is = rw (by, space) at c.if-is_word_space.ensures in
    let bounded = rw place at c.round.ensures.bounded in
    anew _ c.round.result _ _ is (rw place at c.round.ensures.value) (omega (arith, bounded, c.requires.h))

pub returns-else-is_word_space-clause-value : goal.returns-else-is_word_space-clause-value
returns-else-is_word_space-clause-value c =
    let by = kept c.args.by (omega (arith, c.requires.number)) in
    let space = kept c.args.space (omega (arith, ints, c.requires.space.some, c.requires.space.small)) in
    let is = rw (by, space) at c.if-is_word_space.ensures in
    let bounded = rw by at c.round-else-is_word_space.ensures.bounded in
    grown _ c.args.now.hh c.round-else-is_word_space.result _ _ is (rw by at c.round-else-is_word_space.ensures.value) c.requires.held.hh (omega (arith, bounded, c.requires.number))
