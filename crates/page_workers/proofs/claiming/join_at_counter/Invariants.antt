use Rattle.std.proofs.Common.{◌≡◌, ℕ, ◌<◌, ◌≤◌, get_or, length}
use Rattle.page_workers.specs.Claims.{GaveSeat}
use Rattle.page_workers.proofs.claiming.join_at_counter.Given as goal

abbrev pub invariant-loop-k : goal.invariant-loop-k
invariant-loop-k g l = record {
  counter : l.first.counter ≡ l.initial.first.counter;
  number : l.first.view.number ≡ 0;
  claims : l.first.view.claims ≡ l.initial.first.view.claims;
  made : l.first.view.made ≡ l.initial.first.view.made;
  joined : length l.first.view.joined ≡ l.k;
  gave : (k : ℕ) (d : _) (e : _) → k < l.k → GaveSeat (get_or l.first.view.joined k e) (get_or l.initial.workers k d) (get_or l.workers k d);
  left : (k : ℕ) (d : _) → l.k ≤ k → get_or l.workers k d ≡ get_or l.initial.workers k d;
}
