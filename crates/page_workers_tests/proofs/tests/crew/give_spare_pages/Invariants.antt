use Rattle.page_workers.specs.Seating.{IsUnused}
use Rattle.page_workers_tests.proofs.tests.crew.give_spare_pages.Given as goal

abbrev pub invariant-loop-width : goal.invariant-loop-width
invariant-loop-width l = IsUnused l.worker
