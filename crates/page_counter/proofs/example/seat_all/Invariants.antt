use Rattle.std.proofs.Common.{◌≡◌, ◌+◌, All, length}
use Rattle.page_counter.specs.Claimers.{CanNote}
use Rattle.page_counter.proofs.example.seat_all.Given as goal

abbrev pub invariant-loop-i : goal.invariant-loop-i
invariant-loop-i l = record {
  counter : l.first.counter ≡ l.initial.first.counter;
  number : l.first.view.number ≡ 0;
  claims : l.first.view.claims ≡ l.initial.first.view.claims;
  joined : l.first.view.joined ≡ l.initial.first.view.joined;
  made : l.first.view.made ≡ l._i + 1;
  many : length l.claimers.items ≡ l._i;
  ready : All (λ w. CanNote l.counter l.bound w) l.claimers.items;
}
