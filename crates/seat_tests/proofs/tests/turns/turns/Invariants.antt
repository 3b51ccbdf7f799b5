use Rattle.std.proofs.Common.{◌≡◌, ◌+◌, length, IsTrue}
use Rattle.cache_core.specs.Histories.{own}
use Rattle.turn_lock.specs.declared.view.Stage.TheVariants.{Idle}
use Rattle.seat_tests.proofs.tests.turns.turns.Given as goal

abbrev pub invariant-loop-i : goal.invariant-loop-i
invariant-loop-i g l = record {
  lock : l.seat.lock ≡ l.initial.seat.lock;
  idle : l.seat.view.stage ≡ Idle;
  number : l.seat.view.number ≡ l.initial.seat.view.number;
  drawn : l.seat.view.drawn ≡ l.initial.seat.view.drawn + l._i;
  all : IsTrue l.all → length (own l.initial.seat.view.number l.seat.view.seen) ≡ length (own l.initial.seat.view.number l.initial.seat.view.seen) + l._i;
}
