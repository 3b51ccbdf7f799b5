use Rattle.std.proofs.Common.{◌≡◌, ◌≤◌}
use Rattle.std.specs.Option.{option_map}
use Rattle.std.specs.Arc.{arc_value}
use Rattle.cache_core.specs.Histories.{own, open_claim}
use Rattle.turn_lock.specs.declared.view.Stage.TheVariants.{Idle}
use Rattle.seat_tests.proofs.tests.caches.eight.calls.Given as goal

abbrev pub invariant-loop-i : goal.invariant-loop-i
invariant-loop-i g l = record {
  lock : l.seat.lock ≡ l.initial.seat.lock;
  idle : l.seat.view.stage ≡ Idle;
  drawn : l.seat.view.drawn ≤ l.i;
  claim : open_claim (own l.seat.view.number l.seat.view.seen) ≡ option_map arc_value l.claim;
}
