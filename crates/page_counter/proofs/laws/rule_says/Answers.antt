use Rattle.page_counter.proofs.Says.{counter_counts, seats_counted, claimed_by_one, no_other_claimed, none_in_common, claims_rise, claims_few}
use Rattle.page_counter.proofs.laws.rule_says.Goals as goal

pub returns-clause-counter : goal.returns-clause-counter
returns-clause-counter c = counter_counts

pub returns-clause-seats : goal.returns-clause-seats
returns-clause-seats c = seats_counted

pub returns-clause-one : goal.returns-clause-one
returns-clause-one c = claimed_by_one

pub returns-clause-no_other : goal.returns-clause-no_other
returns-clause-no_other c = no_other_claimed

pub returns-clause-apart : goal.returns-clause-apart
returns-clause-apart c = none_in_common

pub returns-clause-rise : goal.returns-clause-rise
returns-clause-rise c = claims_rise

pub returns-clause-few : goal.returns-clause-few
returns-clause-few c = claims_few
