use Rattle.std.proofs.Common.{◌≡◌, ◌≤◌, ◌*◌, ◌^◌, take}
use Rattle.job_spool.specs.Notes.{hits_of}
use Rattle.job_spool.proofs.notes.all_hits.Given as goal

abbrev pub invariant-loop-job : goal.invariant-loop-job
invariant-loop-job g l = record {
  sum : l.hits ≡ hits_of (take l.job-index l.jobs);
  few : l.hits ≤ l.job-index * 2 ^ 64;
}
