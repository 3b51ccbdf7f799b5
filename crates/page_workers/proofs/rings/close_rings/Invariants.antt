use Rattle.std.proofs.Common.{◌≡◌, ℕ, Some, ◌++◌, ◌<◌, ◌≤◌, get_or}
use Rattle.rtrb.specs.Ring.{sent, received, known_items}
use Rattle.page_workers.specs.declared.rings.Outlet.{Outlet}
use Rattle.page_workers.specs.Handing.{Looked}
use Rattle.page_workers.specs.SparePages.{SameButSparePages}
use Rattle.page_workers.proofs.rings.close_rings.Given as goal

abbrev pub invariant-loop-k : goal.invariant-loop-k
invariant-loop-k g l = record {
  same : (k : ℕ) (d : _) → k < l.k → SameButSparePages (get_or l.initial.workers k d) (get_or l.workers k d);
  looked : (k : ℕ) (d : _) → k < l.k → Looked (get_or l.initial.inlets k d) (get_or l.inlets k d);
  known : (k : ℕ) (e : _) → k < l.k → (d : _) (o : Outlet) → (get_or l.initial.workers k d).outlet ≡ Some o → received (get_or l.inlets k e).results ++ known_items (get_or l.inlets k e).results ≡ sent o.results;
  left : (k : ℕ) (d : _) → l.k ≤ k → get_or l.workers k d ≡ get_or l.initial.workers k d;
  others : (k : ℕ) (d : _) → l.k ≤ k → get_or l.inlets k d ≡ get_or l.initial.inlets k d;
}
