use Rattle.code_sums.proofs.Sums.{equal_terms_have_one_sum, one_term_changes, terms_are_in_the_sum, sums_are_bounded}
use Rattle.code_sums.proofs.laws.sums.Goals as goal

pub returns-clause-same : goal.returns-clause-same
returns-clause-same c = equal_terms_have_one_sum

pub returns-clause-changed : goal.returns-clause-changed
returns-clause-changed c = one_term_changes

pub returns-clause-each : goal.returns-clause-each
returns-clause-each c = terms_are_in_the_sum

pub returns-clause-bound : goal.returns-clause-bound
returns-clause-bound c = sums_are_bounded
