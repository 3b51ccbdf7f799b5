use Rattle.font_cache.proofs.LastCalls.{claims_are_last, held_by_last}
use Rattle.font_cache.proofs.laws.claims.Goals as goal

pub returns-clause-last : goal.returns-clause-last
returns-clause-last c = claims_are_last

pub returns-clause-held : goal.returns-clause-held
returns-clause-held c = held_by_last c.histories.ensures.claims
