use Rattle.page_workers.proofs.counting.load_counted.Given as goal

abbrev pub ghosts-load_lent : goal.ghosts-load_lent
ghosts-load_lent g a = record { reference = a.source.ghost_name; begun = g.F.FontSource.loads a.source.now }
