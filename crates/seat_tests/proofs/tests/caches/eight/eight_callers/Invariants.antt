use Rattle.std.proofs.Common.{◌≡◌, ◌+◌, All, None}
use Rattle.cache_core.specs.Histories.{own, open_claim}
use Rattle.turn_lock.specs.declared.view.Stage.TheVariants.{Idle}
use Rattle.seat_tests.proofs.tests.caches.eight.eight_callers.Given as goal

abbrev pub invariant-loop-i : goal.invariant-loop-i
invariant-loop-i l = record {
  lock : l.first.lock ≡ l.initial.first.lock;
  number : l.first.view.number ≡ 0;
  stage : l.first.view.stage ≡ l.initial.first.view.stage;
  joined : l.first.view.joined ≡ l.initial.first.view.joined;
  made : l.first.view.made ≡ l._i + 1;
  callers : All (λ c. (c.seat.lock ≡ l.cache) × (c.seat.view.stage ≡ Idle) × (c.seat.view.drawn ≡ 0) × (open_claim (own c.seat.view.number c.seat.view.seen) ≡ None)) l.callers.items;
}
