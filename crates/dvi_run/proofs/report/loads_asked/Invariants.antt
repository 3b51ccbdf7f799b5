use Rattle.std.proofs.Common.{◌≡◌, ◌≤◌, ◌*◌, ◌^◌, take}
use Rattle.std.specs.List.{sum_by}
use Rattle.dvi_run.proofs.report.loads_asked.Given as goal

abbrev pub invariant-loop-worker : goal.invariant-loop-worker
invariant-loop-worker g l = record {
  sum : l.loads ≡ sum_by (λ w. w.loads) (take l.worker-index l.workers);
  few : l.loads ≤ l.worker-index * 2 ^ 64;
}
