use Rattle.std.proofs.Common.{◌≡◌, ◌+◌}
use Rattle.turn_lock.specs.declared.view.Stage.TheVariants.{Idle}
use Rattle.seat_tests.proofs.tests.turns.alone.turns_alone.Given as goal

abbrev pub invariant-loop-i : goal.invariant-loop-i
invariant-loop-i g l = record {
  lock : l.seat.lock ≡ l.initial.seat.lock;
  idle : l.seat.view.stage ≡ Idle;
  drawn : l.seat.view.drawn ≡ l.initial.seat.view.drawn + l._i;
}
