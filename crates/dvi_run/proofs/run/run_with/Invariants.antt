use Rattle.dvi_run.proofs.run.run_with.Given as goal

abbrev pub ghost-draw_asked : goal.ghost-draw_asked
ghost-draw_asked g a = g.told
