use Rattle.std.proofs.Common.{◌≡◌}
use Rattle.page_workers.proofs.rings.Outlet.wait_for_room.Given as goal

abbrev pub invariant-loop : goal.invariant-loop
invariant-loop g l = l.self.results ≡ l.initial.self.results
