use Rattle.std.proofs.Common.{◌≡◌, ℕ, ◌+◌, ◌<◌, ◌≤◌, get_or}
use Rattle.page_workers.specs.Claims.{GotSeat}
use Rattle.page_workers.proofs.claiming.seat_at_counter.Given as goal

abbrev pub invariant-loop-k : goal.invariant-loop-k
invariant-loop-k g l = record {
  counter : l.first.counter ≡ l.initial.first.counter;
  number : l.first.view.number ≡ 0;
  claims : l.first.view.claims ≡ l.initial.first.view.claims;
  joined : l.first.view.joined ≡ l.initial.first.view.joined;
  made : l.first.view.made ≡ l.k + 1;
  got : (k : ℕ) (d : _) → k < l.k → GotSeat l.counter (get_or l.initial.workers k d) (get_or l.workers k d);
  left : (k : ℕ) (d : _) → l.k ≤ k → get_or l.workers k d ≡ get_or l.initial.workers k d;
}
