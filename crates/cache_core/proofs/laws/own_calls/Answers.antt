use Rattle.cache_core.proofs.SeatCalls.{owns_are_joined, owns_are_history}
use Rattle.cache_core.proofs.laws.own_calls.Goals as goal

pub returns-clause-joined : goal.returns-clause-joined
returns-clause-joined c = owns_are_joined

pub returns-clause-alone : goal.returns-clause-alone
returns-clause-alone c = owns_are_history
