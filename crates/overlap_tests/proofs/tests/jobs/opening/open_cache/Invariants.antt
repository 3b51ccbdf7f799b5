use Rattle.overlap_tests.proofs.tests.jobs.opening.open_cache.Given as goal

abbrev pub ghost-make : goal.ghost-make
ghost-make g a = g.part
