use Rattle.std.proofs.Common.{◌≡◌, ℕ, ◌-◌, ◌++◌, ◌<◌, ◌≤◌, List, length, get_or}
use Rattle.rtrb.specs.Ring.{received, known_items}
use Rattle.page_workers.specs.declared.rings.Inlet.{Inlet}
use Rattle.page_workers.specs.declared.worker.PageResult.{PageResult}
use Rattle.page_workers.specs.Handing.{TookSome}
use Rattle.page_workers.specs.SparePages.{SameButSparePages}
use Rattle.page_workers.proofs.taking.take_rest.Given as goal

abbrev pub invariant-loop-taken : goal.invariant-loop-taken
invariant-loop-taken g l = record {
  most : l.taken ≤ l.pages.count;
  same : (k : ℕ) (d : _) → k < length l.initial.workers → SameButSparePages (get_or l.initial.workers k d) (get_or l.workers k d);
  all : (k : ℕ) (d : _) → k < length l.initial.inlets
      → received (get_or l.inlets k d).results ++ known_items (get_or l.inlets k d).results ≡ received (get_or l.initial.inlets k d).results ++ known_items (get_or l.initial.inlets k d).results;
  took : (start : List Inlet) (w : _) (o : _) (results : List PageResult) → length start ≡ length l.initial.inlets
      → TookSome g.W.PageTaker.takes l.pages.first l.before start l.initial.inlets results w o l.initial.taker l.initial.out
      → (more : List PageResult) × TookSome g.W.PageTaker.takes l.pages.first l.taken start l.inlets more w o l.taker l.out;
}

abbrev pub decreases-loop-taken : goal.decreases-loop-taken
decreases-loop-taken g l = l.pages.count - l.taken
