use Rattle.std.proofs.Common.{None}
use Rattle.page_workers_tests.proofs.tests.crew.one_round.Given as goal

abbrev pub ghost-open_cache : goal.ghost-open_cache
ghost-open_cache g a = record { capacity = a.capacity; budget = a.budget; units = a._units.now; library = None }
