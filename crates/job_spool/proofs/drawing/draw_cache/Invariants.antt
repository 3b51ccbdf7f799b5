use Rattle.job_spool.proofs.drawing.draw_cache.Given as goal

abbrev pub ghost-open_cache : goal.ghost-open_cache
ghost-open_cache g a = record { capacity = a.capacity; budget = a.budget; units = a._units.now; library = g.known }

abbrev pub ghost-draw_sharers : goal.ghost-draw_sharers
ghost-draw_sharers g a = g.known
