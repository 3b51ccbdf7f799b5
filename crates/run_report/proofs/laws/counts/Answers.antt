use Rattle.run_report.proofs.Counted.{counts_add_up, evictions_add_up, looks_are_answers}
use Rattle.run_report.proofs.laws.counts.Goals as goal

pub returns-clause-looks : goal.returns-clause-looks
returns-clause-looks c = looks_are_answers

pub returns-clause-joined : goal.returns-clause-joined
returns-clause-joined c = counts_add_up

pub returns-clause-evictions : goal.returns-clause-evictions
returns-clause-evictions c = evictions_add_up
