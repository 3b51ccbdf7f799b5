use Rattle.job_spool.proofs.spool.spool_run.Given as goal

abbrev pub ghost-draw_jobs : goal.ghost-draw_jobs
ghost-draw_jobs g a = g.told
