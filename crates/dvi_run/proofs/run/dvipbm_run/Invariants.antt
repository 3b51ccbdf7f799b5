use Rattle.dvi_run.proofs.run.dvipbm_run.Given as goal

abbrev pub ghost-run_with : goal.ghost-run_with
ghost-run_with g a = g.told
