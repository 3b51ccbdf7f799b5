use Rattle.drift_rules.proofs.Held.{at_h_kept}
use Rattle.drift_rules.proofs.motions.at_column.Goals as goal

pub returns-clause-moved : goal.returns-clause-moved
returns-clause-moved c =
    (at_h_kept c.args.conv.now c.args.now c.args.h c.args.column c.round.result c.drift.result c.requires.held c.requires.h c.requires.column c.round.ensures.value c.round.ensures.bounded c.drift.ensures).0

pub returns-clause-held : goal.returns-clause-held
returns-clause-held c =
    let made = at_h_kept c.args.conv.now c.args.now c.args.h c.args.column c.round.result c.drift.result c.requires.held c.requires.h c.requires.column c.round.ensures.value c.round.ensures.bounded c.drift.ensures in
    rw made.0 made.1
