use Rattle.job_spool.proofs.spool.draw_jobs.Given as goal

abbrev pub ghost-draw_caches : goal.ghost-draw_caches
ghost-draw_caches g a = g.known
