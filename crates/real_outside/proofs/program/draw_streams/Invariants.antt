use Rattle.std.specs.Option.{option_map}
use Rattle.real_streams.specs.Files.{cut_files}
use Rattle.real_outside.proofs.Ready.{first_known}
use Rattle.real_outside.proofs.program.draw_streams.Given as goal

-- what the workers know of the font files
abbrev pub ghost-draw_by : goal.ghost-draw_by
ghost-draw_by g a = first_known (λ s. option_map cut_files (g.O.Opener.files s.opener)) a.workers.items

-- what the writers hold
abbrev pub ghosts-draw_by-A-Start : goal.ghosts-draw_by-A-Start
ghosts-draw_by-A-Start g a = record { held = g.W.Write.contents a.out }

abbrev pub ghosts-draw_by-B-Start : goal.ghosts-draw_by-B-Start
ghosts-draw_by-B-Start g a = record { held = g.N.Write.contents a.notes }
