use Rattle.std.proofs.Common.{◌≡◌, ℕ, ◌<◌, [], length, get_or}
use Rattle.dvispool.proofs.jobs.jobs_of.Given as goal

abbrev pub invariant-loop-pair : goal.invariant-loop-pair
invariant-loop-pair g l = record {
  count : length l.jobs.items ≡ l.pair-index;
  empty : (k : ℕ) (d : _) → k < l.pair-index → (get_or l.jobs.items k d).history.items ≡ [];
}
