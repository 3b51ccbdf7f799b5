use Rattle.dvi_run.proofs.stages.draw_pages.Given as goal

abbrev pub ghost-open_cache : goal.ghost-open_cache
ghost-open_cache g a = record { capacity = a.capacity; budget = a.budget; units = a._units.now; library = g.known }

abbrev pub ghost-draw_with_shared_cache : goal.ghost-draw_with_shared_cache
ghost-draw_with_shared_cache g a = g.known
