use Rattle.page_counter.proofs.Says.{claims_are_of_seats, seats_have_claims}
use Rattle.page_counter.proofs.laws.claims_of_seats.Goals as goal

pub returns-clause-of_one : goal.returns-clause-of_one
returns-clause-of_one c = claims_are_of_seats

pub returns-clause-of_each : goal.returns-clause-of_each
returns-clause-of_each c = seats_have_claims
