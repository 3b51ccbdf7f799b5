use Rattle.std.proofs.Common.{◌≡◌, length}
use Rattle.seat_tests.proofs.tests.claims.claim_all.Given as goal

abbrev pub invariant-loop-i : goal.invariant-loop-i
invariant-loop-i l = record {
  counter : l.player.seat.counter ≡ l.initial.player.seat.counter;
  claims : length l.player.seat.view.claims ≡ l._i;
}
