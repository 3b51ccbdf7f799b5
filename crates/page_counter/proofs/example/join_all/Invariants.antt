use Rattle.std.proofs.Common.{◌≡◌, ◌+◌, ◌<◌, All, length, filter, nat_lt}
use Rattle.page_counter.specs.Claimers.{HasClaimed, IsReached}
use Rattle.page_counter.specs.Views.{claims_of}
use Rattle.page_counter.proofs.example.join_all.Given as goal

abbrev pub invariant-loop-claimer : goal.invariant-loop-claimer
invariant-loop-claimer l = record {
  counter : l.first.counter ≡ l.initial.first.counter;
  number : l.first.view.number ≡ 0;
  claims : l.first.view.claims ≡ l.initial.first.view.claims;
  made : l.first.view.made ≡ l.initial.first.view.made;
  joined : length l.first.view.joined + length l.claimers.items ≡ length l.initial.claimers.items;
  ready : All (λ w. HasClaimed l.counter l.bound w) l.claimers.items;
  noted : l.all.items ≡ filter (λ c. nat_lt c l.bound) (claims_of l.first.view.joined);
  reached : 0 < length l.first.view.joined → IsReached l.bound (claims_of l.first.view.joined);
}

abbrev pub decreases-loop-claimer : goal.decreases-loop-claimer
decreases-loop-claimer l = length l.claimers.items
