use Rattle.dvi_run.proofs.shared_cache.draw_with_shared_cache.Given as goal

abbrev pub ghost-draw_with_cache : goal.ghost-draw_with_cache
ghost-draw_with_cache g a = g.known
