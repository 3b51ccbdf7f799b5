use Rattle.std.proofs.Common.{◌-◌, ◌≡◌, ◌<◌, ◌≤◌, [], ◌∷◌, ◌++◌, All, length}
use Rattle.std.specs.Vec.{vec_capacity}
use Rattle.page_counter.proofs.example.note_below.Given as goal

abbrev pub invariant-loop-claim : goal.invariant-loop-claim
invariant-loop-claim l = record {
  counter : l.seat.counter ≡ l.initial.seat.counter;
  claims : l.seat.view.claims ≡ l.noted.items ++ l.claim ∷ [];
  below : All (λ c. c < l.bound) l.noted.items;
  room : l.bound ≤ vec_capacity l.noted;
  least : length l.noted.items ≤ l.claim;
}

abbrev pub decreases-loop-claim : goal.decreases-loop-claim
decreases-loop-claim l = l.bound - length l.noted.items
