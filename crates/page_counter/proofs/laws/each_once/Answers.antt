use Rattle.page_counter.proofs.Once.{once_is_count, once_has_all, once_has_no_other, once_has_lower, once_is_apart, once_below, once_reached}
use Rattle.page_counter.proofs.laws.each_once.Goals as goal

pub returns-clause-count : goal.returns-clause-count
returns-clause-count c = once_is_count

pub returns-clause-all : goal.returns-clause-all
returns-clause-all c = once_has_all

pub returns-clause-no_other : goal.returns-clause-no_other
returns-clause-no_other c = once_has_no_other

pub returns-clause-lower : goal.returns-clause-lower
returns-clause-lower c = once_has_lower

pub returns-clause-apart : goal.returns-clause-apart
returns-clause-apart c = once_is_apart

pub returns-clause-below : goal.returns-clause-below
returns-clause-below c = once_below

pub returns-clause-reached : goal.returns-clause-reached
returns-clause-reached c = once_reached
