use Rattle.std.proofs.Common.{◌≡◌, ℕ, ◌<◌, ◌≤◌, [], get_or}
use Rattle.page_workers.specs.SparePages.{SameButSparePages}
use Rattle.page_workers.proofs.spare_pages.drop_spare_pages.Given as goal

abbrev pub invariant-loop-k : goal.invariant-loop-k
invariant-loop-k g l = record {
  same : (k : ℕ) (d : _) → k < l.k → SameButSparePages (get_or l.initial.workers k d) (get_or l.workers k d);
  none : (k : ℕ) (d : _) → k < l.k → (get_or l.workers k d).spare_pages.items ≡ [];
  left : (k : ℕ) (d : _) → l.k ≤ k → get_or l.workers k d ≡ get_or l.initial.workers k d;
}
