use Rattle.dvi_run.proofs.shared_cache.draw_with_cache.Given as goal

abbrev pub ghost-write_rounds : goal.ghost-write_rounds
ghost-write_rounds g a = g.known
