use Rattle.std.proofs.Common.{◌≡◌, ℕ, ◌<◌, ◌≤◌, length, get_or}
use Rattle.page_workers.specs.Handing.{AreNewlyLinked, WithOutlet}
use Rattle.page_workers.proofs.rings.open_rings.Given as goal

abbrev pub invariant-loop-k : goal.invariant-loop-k
invariant-loop-k g l = record {
  long : length l.inlets.items ≡ l.k;
  same : (k : ℕ) (d : _) → k < l.k → WithOutlet (get_or l.initial.workers k d) (get_or l.workers k d);
  linked : (k : ℕ) (d : _) (e : _) → k < l.k → AreNewlyLinked l.round.pages.count (get_or l.workers k d) (get_or l.inlets.items k e);
  left : (k : ℕ) (d : _) → l.k ≤ k → get_or l.workers k d ≡ get_or l.initial.workers k d;
}
