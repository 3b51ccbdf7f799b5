use Rattle.dvi_run.proofs.sampled.draw_asked.Given as goal

abbrev pub ghost-draw_input : goal.ghost-draw_input
ghost-draw_input g a = g.known

abbrev pub ghost-draw_sample : goal.ghost-draw_sample
ghost-draw_sample g a = g.known
