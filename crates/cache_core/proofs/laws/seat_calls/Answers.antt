use Rattle.cache_core.proofs.SeatCalls.{keys_are_looks, prefixes_have_calls, calls_are_joined}
use Rattle.cache_core.proofs.laws.seat_calls.Goals as goal

pub returns-clause-keys : goal.returns-clause-keys
returns-clause-keys c = keys_are_looks

pub returns-clause-prefixes : goal.returns-clause-prefixes
returns-clause-prefixes c = prefixes_have_calls

pub returns-clause-joined : goal.returns-clause-joined
returns-clause-joined c = calls_are_joined
