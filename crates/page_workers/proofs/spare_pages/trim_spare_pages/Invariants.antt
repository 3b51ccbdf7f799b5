use Rattle.std.proofs.Common.{◌≡◌, ℕ, ◌<◌, ◌≤◌, length, get_or}
use Rattle.page_workers.specs.SparePages.{SameButSparePages, spare_pages_kept}
use Rattle.page_workers.proofs.spare_pages.trim_spare_pages.Given as goal

abbrev pub invariant-loop-k : goal.invariant-loop-k
invariant-loop-k g l = record {
  same : (k : ℕ) (d : _) → k < l.k → SameButSparePages (get_or l.initial.workers k d) (get_or l.workers k d);
  kept : (k : ℕ) (d : _) → k < l.k → length (get_or l.workers k d).spare_pages.items ≤ spare_pages_kept (length l.initial.workers);
  left : (k : ℕ) (d : _) → l.k ≤ k → get_or l.workers k d ≡ get_or l.initial.workers k d;
}
