use Rattle.dvi_run.proofs.stages.draw_document.Given as goal

abbrev pub ghost-draw_pages : goal.ghost-draw_pages
ghost-draw_pages g a = g.known
