use Rattle.std.proofs.Common.{◌≡◌, ◌+◌, All, length}
use Rattle.seat_tests.proofs.tests.claims.join_all.Given as goal

abbrev pub invariant-loop-player : goal.invariant-loop-player
invariant-loop-player l = record {
  counter : l.first.counter ≡ l.initial.first.counter;
  number : l.first.view.number ≡ 0;
  made : l.first.view.made ≡ l.initial.first.view.made;
  joined : length l.first.view.joined + length l.players.items + 1 ≡ l.first.view.made;
  ready : All (λ p. p.seat.counter ≡ l.counter) l.players.items;
}

abbrev pub decreases-loop-player : goal.decreases-loop-player
decreases-loop-player l = length l.players.items
