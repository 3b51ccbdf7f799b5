use Rattle.turn_lock.proofs.Says.{numbers_fit, tickets_fit, draws_fit, slot_is_kept, part_is_one, history_is_one}
use Rattle.turn_lock.proofs.laws.rule_says.Goals as goal

pub returns-clause-numbers : goal.returns-clause-numbers
returns-clause-numbers g c = numbers_fit g.T.Told.history g.T.Told.turns g.T.Told.stands

pub returns-clause-tickets : goal.returns-clause-tickets
returns-clause-tickets g c = tickets_fit g.T.Told.history g.T.Told.turns g.T.Told.stands

pub returns-clause-draws : goal.returns-clause-draws
returns-clause-draws g c = draws_fit g.T.Told.history g.T.Told.turns g.T.Told.stands

pub returns-clause-slot : goal.returns-clause-slot
returns-clause-slot g c = slot_is_kept g.T.Told.history g.T.Told.turns g.T.Told.stands

pub returns-clause-common_part : goal.returns-clause-common_part
returns-clause-common_part g c = part_is_one g.T.Told.history g.T.Told.turns g.T.Told.stands

pub returns-clause-history : goal.returns-clause-history
returns-clause-history g c = history_is_one g.T.Told.history g.T.Told.turns g.T.Told.stands
