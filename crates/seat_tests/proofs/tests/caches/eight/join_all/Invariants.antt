use Rattle.std.proofs.Common.{◌≡◌, ℕ, ◌+◌, ◌<◌, ◌≤◌, All}
use mathlib.Core.Option.{some}
use lib.ListN.{get_elem?}
use Rattle.turn_lock.specs.declared.view.Stage.TheVariants.{Idle}
use Rattle.seat_tests.proofs.tests.caches.eight.join_all.Given as goal

abbrev pub invariant-loop-i : goal.invariant-loop-i
invariant-loop-i l = record {
  lock : l.first.lock ≡ l.initial.first.lock;
  number : l.first.view.number ≡ 0;
  idle : l.first.view.stage ≡ Idle;
  made : l.first.view.made ≡ 9;
  -- the numbers from the last down to here were joined
  joined : (n : ℕ) → 8 < n + l.i → n < 9 → (at : ℕ) × (get_elem? l.first.view.joined at ≡ some n);
  callers : All (λ c. (c.seat.lock ≡ l.cache) × (c.seat.view.stage ≡ Idle)) l.callers.items;
}
