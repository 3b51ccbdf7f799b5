use Rattle.std.proofs.Common.{◌≡◌, ◌≤◌, ◌*◌, ◌^◌, take}
use Rattle.job_spool.specs.Notes.{looks_of}
use Rattle.job_spool.proofs.notes.all_looks.Given as goal

abbrev pub invariant-loop-job : goal.invariant-loop-job
invariant-loop-job g l = record {
  sum : l.looks ≡ looks_of (take l.job-index l.jobs);
  few : l.looks ≤ l.job-index * 2 ^ 64;
}
