use Rattle.dvi_run.proofs.job.draw_job.Given as goal

abbrev pub ghost-write_rounds : goal.ghost-write_rounds
ghost-write_rounds g a = g.known
