use Rattle.turn_lock.proofs.Keeps.{opens, draws, looks, hands, asks, splits, joins, settles}
use Rattle.turn_lock.proofs.laws.steps_keep.Goals as goal

pub returns-clause-make : goal.returns-clause-make
returns-clause-make g c = opens g.T.Told.history g.T.Told.turns g.T.Told.stands

pub returns-clause-draw : goal.returns-clause-draw
returns-clause-draw g c = draws g.T.Told.history g.T.Told.turns g.T.Told.stands

pub returns-clause-look : goal.returns-clause-look
returns-clause-look g c = looks g.T.Told.history g.T.Told.turns g.T.Told.stands

pub returns-clause-hand_on : goal.returns-clause-hand_on
returns-clause-hand_on g c = hands g.T.Told.history g.T.Told.turns g.T.Told.stands

pub returns-clause-ask : goal.returns-clause-ask
returns-clause-ask g c = asks g.T.Told.history g.T.Told.turns g.T.Told.stands

pub returns-clause-split : goal.returns-clause-split
returns-clause-split g c = splits g.T.Told.history g.T.Told.turns g.T.Told.stands

pub returns-clause-join : goal.returns-clause-join
returns-clause-join g c = joins g.T.Told.history g.T.Told.turns g.T.Told.stands

pub returns-clause-compare : goal.returns-clause-compare
returns-clause-compare g c = settles g.T.Told.history g.T.Told.turns g.T.Told.stands
