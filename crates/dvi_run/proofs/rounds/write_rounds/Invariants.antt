use Rattle.dvi_run.proofs.rounds.write_rounds.Given as goal

abbrev pub ghost-press_rounds : goal.ghost-press_rounds
ghost-press_rounds g a = g.known
