use Rattle.cache_core.proofs.Solo.{none_alone_is_busy, solo_is_one, solo_is_there}
use Rattle.cache_core.proofs.laws.solo.Goals as goal

pub returns-clause-busy : goal.returns-clause-busy
returns-clause-busy c = none_alone_is_busy

pub returns-clause-one : goal.returns-clause-one
returns-clause-one c = solo_is_one

pub returns-clause-there : goal.returns-clause-there
returns-clause-there c = solo_is_there
