use Rattle.std.proofs.Common.{◌≡◌, ℕ, ◌<◌, ◌≤◌, get_or}
use Rattle.page_workers.specs.Handing.{Looked}
use Rattle.page_workers.proofs.taking.look_at_all.Given as goal

abbrev pub invariant-loop-k : goal.invariant-loop-k
invariant-loop-k l = record {
  looked : (k : ℕ) (d : _) → k < l.k → Looked (get_or l.initial.inlets k d) (get_or l.inlets k d);
  left : (k : ℕ) (d : _) → l.k ≤ k → get_or l.inlets k d ≡ get_or l.initial.inlets k d;
}
