use Rattle.std.proofs.Common.{◌≡◌, ℕ, ◌<◌, ◌≤◌, get_or}
use Rattle.job_spool.proofs.reading.begin.Given as goal

abbrev pub invariant-loop-k : goal.invariant-loop-k
invariant-loop-k g l = record {
  done : (j : ℕ) (d : _) → j < l.k → get_or l.jobs j d ≡ record (get_or l.initial.jobs j d) { status = 9 };
  left : (j : ℕ) (d : _) → l.k ≤ j → get_or l.jobs j d ≡ get_or l.initial.jobs j d;
}
