use Rattle.std.proofs.Common.{◌≡◌, ◌+◌, [], All, length}
use Rattle.seat_tests.proofs.tests.claims.players.Given as goal

abbrev pub invariant-loop-i : goal.invariant-loop-i
invariant-loop-i l = record {
  counter : l.first.counter ≡ l.initial.first.counter;
  number : l.first.view.number ≡ 0;
  joined : l.first.view.joined ≡ l.initial.first.view.joined;
  made : l.first.view.made ≡ l._i + 1;
  many : length l.players.items ≡ l._i;
  ready : All (λ p. (p.seat.counter ≡ l.counter) × (p.seat.view.claims ≡ [])) l.players.items;
}
