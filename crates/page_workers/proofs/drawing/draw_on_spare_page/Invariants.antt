use Rattle.page_workers.specs.Rounds.{trail_of}
use Rattle.page_workers.specs.Seats.{asked_at}
use Rattle.page_workers.proofs.drawing.draw_on_spare_page.Given as goal

abbrev pub ghosts-draw_lent : goal.ghosts-draw_lent
ghosts-draw_lent g a = record {
  reference = a.worker.ghost_name;
  asked = asked_at a.worker.now.seat;
  trail = trail_of g.F.FontSource.loads a.worker.now;
  faults = g.F.FontSource.faults a.worker.now.source;
}
