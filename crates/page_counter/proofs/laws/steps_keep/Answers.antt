use Rattle.page_counter.proofs.Keeps.{makes, claims, splits, joins}
use Rattle.page_counter.proofs.laws.steps_keep.Goals as goal

pub returns-clause-make : goal.returns-clause-make
returns-clause-make c = makes

pub returns-clause-claim : goal.returns-clause-claim
returns-clause-claim c = claims

pub returns-clause-split : goal.returns-clause-split
returns-clause-split c = splits

pub returns-clause-join : goal.returns-clause-join
returns-clause-join c = joins
