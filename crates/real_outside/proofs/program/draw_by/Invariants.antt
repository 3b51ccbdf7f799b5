use Rattle.real_outside.proofs.program.draw_by.Given as goal

abbrev pub ghost-dvipbm_run : goal.ghost-dvipbm_run
ghost-dvipbm_run g a = g.told
