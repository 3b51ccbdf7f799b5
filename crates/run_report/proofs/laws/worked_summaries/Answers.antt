use Rattle.std.proofs.Common.{refl}
use Rattle.std.specs.Fmt.{digits}
use Rattle.run_report.proofs.laws.worked_summaries.Goals as goal

pub returns-clause-of_one : goal.returns-clause-of_one
unfolding digits
returns-clause-of_one c = refl

pub returns-clause-of_three : goal.returns-clause-of_three
unfolding digits
returns-clause-of_three c = refl

pub returns-clause-of_two_seats : goal.returns-clause-of_two_seats
unfolding digits
returns-clause-of_two_seats c = refl

pub returns-clause-of_nine : goal.returns-clause-of_nine
unfolding digits
returns-clause-of_nine c = refl
