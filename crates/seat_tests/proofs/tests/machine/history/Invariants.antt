use Rattle.std.proofs.Common.{◌≡◌, []}
use Rattle.seat_tests.proofs.tests.machine.history.Given as goal

abbrev pub invariant-loop-wanted : goal.invariant-loop-wanted
invariant-loop-wanted l = record { idle : l.state.claims ≡ [] }
