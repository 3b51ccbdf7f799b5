use Rattle.std.proofs.Common.{◌≡◌, ◌+◌, All, None}
use Rattle.cache_core.specs.Histories.{own, open_claim}
use Rattle.turn_lock.specs.declared.view.Stage.TheVariants.{Idle}
use Rattle.cache_seats.proofs.seats.split_off.Given as goal

abbrev pub invariant-loop-i : goal.invariant-loop-i
invariant-loop-i l = record {
  lock : l.first.lock ≡ l.cache;
  number : l.first.view.number ≡ 0;
  made : l.first.view.made ≡ l._i + 1;
  seats : All (λ s. (s.seat.lock ≡ s.cache.now) × (s.seat.view.stage ≡ Idle) × (s.seat.view.drawn ≡ 0) × (open_claim (own s.seat.view.number s.seat.view.seen) ≡ None)) l.seats.items;
}
