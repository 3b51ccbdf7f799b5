use Rattle.std.proofs.Common.{◌≡◌, []}
use Rattle.seat_tests.proofs.tests.hits.noted.Given as goal

abbrev pub invariant-loop-wanted : goal.invariant-loop-wanted
invariant-loop-wanted l = record { idle : l.state.claims ≡ [] }
