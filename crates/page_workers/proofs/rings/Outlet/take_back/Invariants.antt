use Rattle.std.proofs.Common.{◌≡◌}
use Rattle.page_workers.proofs.rings.Outlet.take_back.Given as goal

abbrev pub invariant-loop : goal.invariant-loop
invariant-loop l = l.self.results ≡ l.initial.self.results
