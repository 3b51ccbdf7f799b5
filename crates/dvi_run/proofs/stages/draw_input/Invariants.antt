use Rattle.dvi_run.proofs.stages.draw_input.Given as goal

abbrev pub ghost-draw_document : goal.ghost-draw_document
ghost-draw_document g a = g.known
