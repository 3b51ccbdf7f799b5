use Rattle.std.proofs.Common.{◌≡◌, ◌≤◌, take}
use Rattle.cache_core.specs.Views.{calls_of}
use Rattle.run_report.specs.Summary.{count_of, is_hit}
use Rattle.job_spool.proofs.notes.hits_in.Given as goal

abbrev pub invariant-loop-entry : goal.invariant-loop-entry
invariant-loop-entry l = record {
  is : l.hits ≡ count_of is_hit (calls_of (take l.entry-index l.history));
  few : l.hits ≤ l.entry-index;
}
