use Rattle.std.proofs.Common.{◌≡◌, ◌<◌, ℕ, [], get_or}
use Rattle.run_cases.proofs.spooled.are_fresh.Given as goal

abbrev pub invariant-loop-job : goal.invariant-loop-job
invariant-loop-job l = (k : ℕ) (d : _) → k < l.job-index → (get_or l.jobs k d).history.items ≡ []
