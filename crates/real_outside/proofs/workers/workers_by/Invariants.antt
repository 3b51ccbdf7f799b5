use Rattle.std.proofs.Common.{◌≡◌, ℕ, ◌<◌, length, get_or}
use Rattle.real_outside.specs.Workers.{IsNewWorker}
use Rattle.real_outside.proofs.workers.workers_by.Given as goal

abbrev pub invariant-loop-k : goal.invariant-loop-k
invariant-loop-k g l = record {
  count : length l.workers.items ≡ l._k;
  each : (k : ℕ) (d : _) → k < l._k → IsNewWorker l.initial.opener (get_or l.workers.items k d);
}
