use Rattle.drift_rules.proofs.Held.{at_v_kept}
use Rattle.drift_rules.proofs.motions.at_row.Goals as goal

pub returns-clause-moved : goal.returns-clause-moved
returns-clause-moved c =
    (at_v_kept c.args.conv.now c.args.now c.args.v c.args.row c.round.result c.drift.result c.requires.held c.requires.v c.requires.row c.round.ensures.value c.round.ensures.bounded c.drift.ensures).0

pub returns-clause-held : goal.returns-clause-held
returns-clause-held c =
    let made = at_v_kept c.args.conv.now c.args.now c.args.v c.args.row c.round.result c.drift.result c.requires.held c.requires.v c.requires.row c.round.ensures.value c.round.ensures.bounded c.drift.ensures in
    rw made.0 made.1
