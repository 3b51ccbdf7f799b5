use Rattle.std.proofs.Common.{ℕ, ◌<◌, length, get_or}
use Rattle.page_workers.specs.Handing.{Looked}
use Rattle.page_workers.proofs.taking.wait_for_page.Given as goal

abbrev pub invariant-loop : goal.invariant-loop
invariant-loop g l = (k : ℕ) (d : _) → k < length l.initial.inlets → Looked (get_or l.initial.inlets k d) (get_or l.inlets k d)
