use Rattle.std.proofs.Common.{◌≡◌, ℕ, ◌<◌, ◌≤◌, get_or}
use Rattle.dvi_run.specs.Sampled.{TookResults}
use Rattle.dvi_run.proofs.own_workers.move_results.Given as goal

abbrev pub invariant-loop-k : goal.invariant-loop-k
invariant-loop-k g l = record {
  handed : (k : ℕ) (e : _) (d : _) → k < l.k → TookResults (get_or l.initial.own k e) (get_or l.initial.workers k d) (get_or l.workers k d);
  mine : (k : ℕ) (e : _) → l.k ≤ k → get_or l.own k e ≡ get_or l.initial.own k e;
  left : (k : ℕ) (d : _) → l.k ≤ k → get_or l.workers k d ≡ get_or l.initial.workers k d;
}
