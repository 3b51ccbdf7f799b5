use Rattle.std.proofs.Common.{◌≡◌, ◌+◌, ◌≤◌, None}
use Rattle.cache_core.specs.Histories.{own, open_claim}
use Rattle.turn_lock.specs.declared.view.Stage.TheVariants.{Idle}
use Rattle.seat_tests.proofs.tests.caches.rounds.Given as goal

abbrev pub invariant-loop-i : goal.invariant-loop-i
invariant-loop-i g l = record {
  lock : l.seat.lock ≡ l.initial.seat.lock;
  idle : l.seat.view.stage ≡ Idle;
  number : l.seat.view.number ≡ l.initial.seat.view.number;
  drawn : l.seat.view.drawn ≤ l.i + l.i + l.i;
  free : open_claim (own l.seat.view.number l.seat.view.seen) ≡ None;
  calls : l.calls ≤ l.i + l.i;
}
