use Rattle.std.proofs.Common.{◌≡◌, ℕ, ◌<◌, Some, length, get_or}
use Rattle.dvi_run.specs.Together.{IsReadyWorker}
use Rattle.dvi_run.proofs.own_workers.own_workers.Given as goal

abbrev pub invariant-loop-k : goal.invariant-loop-k
invariant-loop-k l = record {
  count : length l.workers.items ≡ l._k;
  ready : (k : ℕ) (d : _) → k < l._k → IsReadyWorker (λ s. Some s.library.value) (Some l.library.value) (get_or l.workers.items k d);
}
