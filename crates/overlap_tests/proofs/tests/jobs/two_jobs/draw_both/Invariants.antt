use Rattle.std.proofs.Common.{None}
use Rattle.overlap_tests.proofs.tests.jobs.two_jobs.draw_both.Given as goal

abbrev pub ghost-open_cache : goal.ghost-open_cache
ghost-open_cache g a = record { capacity = a.capacity; budget = a.budget; units = a._units.now; library = None }
