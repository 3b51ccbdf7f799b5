use Rattle.drift_rules.proofs.Stack.{few_are_saved, deep_at_a_push, empty_at_a_pop}
use Rattle.drift_rules.proofs.laws.stack_has_bounds.Goals as goal

pub returns-clause-few : goal.returns-clause-few
returns-clause-few c = few_are_saved

pub returns-clause-deep : goal.returns-clause-deep
returns-clause-deep c = deep_at_a_push

pub returns-clause-empty : goal.returns-clause-empty
returns-clause-empty c = empty_at_a_pop
