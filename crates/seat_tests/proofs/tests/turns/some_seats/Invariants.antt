use Rattle.std.proofs.Common.{◌≡◌, ◌+◌, All}
use Rattle.turn_lock.specs.declared.view.Stage.TheVariants.{Idle}
use Rattle.seat_tests.proofs.tests.turns.some_seats.Given as goal

abbrev pub invariant-loop-i : goal.invariant-loop-i
invariant-loop-i l = record {
  lock : l.first.lock ≡ l.initial.first.lock;
  number : l.first.view.number ≡ 0;
  stage : l.first.view.stage ≡ l.initial.first.view.stage;
  drawn : l.first.view.drawn ≡ l.initial.first.view.drawn;
  made : l.first.view.made ≡ l._i + 1;
  seats : All (λ s. (s.lock ≡ l.lock) × (s.view.stage ≡ Idle) × (s.view.drawn ≡ 0)) l.seats.items;
}
