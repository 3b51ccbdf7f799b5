use Rattle.job_spool.proofs.drawing.draw_one.Given as goal

abbrev pub ghost-draw_job : goal.ghost-draw_job
ghost-draw_job g a = g.known
