use Rattle.drift_rules.proofs.Stack.{pops_give_back, packets_move_as_characters, saved_stay}
use Rattle.drift_rules.proofs.laws.pops_give_back.Goals as goal

pub returns-clause-all_eight : goal.returns-clause-all_eight
returns-clause-all_eight c = pops_give_back

pub returns-clause-saved_before : goal.returns-clause-saved_before
returns-clause-saved_before c = saved_stay

pub returns-clause-packets : goal.returns-clause-packets
returns-clause-packets c = packets_move_as_characters
