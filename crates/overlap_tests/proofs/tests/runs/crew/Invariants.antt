use Rattle.std.proofs.Common.{◌≡◌, ℕ, ◌<◌, length, get_or}
use Rattle.page_workers.specs.Seating.{IsUnused}
use Rattle.overlap_tests.proofs.tests.runs.crew.Given as goal

abbrev pub invariant-loop-k : goal.invariant-loop-k
invariant-loop-k l = record {
  count : length l.workers.items ≡ l._k;
  unused : (k : ℕ) (d : _) → k < l._k → IsUnused (get_or l.workers.items k d);
}
