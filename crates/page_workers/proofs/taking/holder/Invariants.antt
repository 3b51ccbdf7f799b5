use Rattle.std.proofs.Common.{ℕ, ◌<◌, get_or}
use Rattle.rtrb.specs.Ring.{known_items}
use Rattle.page_workers.specs.Handing.{HasAtHead}
use Rattle.page_workers.proofs.taking.holder.Given as goal

abbrev pub invariant-loop-k : goal.invariant-loop-k
invariant-loop-k l = (k : ℕ) (d : _) → k < l.k → HasAtHead l.page (known_items (get_or l.inlets k d).results) → ⊥
