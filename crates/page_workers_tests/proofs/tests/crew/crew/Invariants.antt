use Rattle.std.proofs.Common.{◌≡◌, All, length}
use Rattle.page_workers.specs.Seating.{IsUnused}
use Rattle.page_workers_tests.proofs.tests.crew.crew.Given as goal

abbrev pub invariant-loop-i : goal.invariant-loop-i
invariant-loop-i l = record {
  count : length l.workers.items ≡ l._i;
  unused : All IsUnused l.workers.items;
}
