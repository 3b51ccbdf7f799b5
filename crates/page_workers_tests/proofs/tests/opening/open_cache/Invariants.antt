use Rattle.page_workers_tests.proofs.tests.opening.open_cache.Given as goal

abbrev pub ghost-make : goal.ghost-make
ghost-make g a = g.part
