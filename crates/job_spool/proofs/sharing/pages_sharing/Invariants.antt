use Rattle.std.proofs.Common.{◌≡◌, ◌≤◌, ◌*◌}
use Rattle.job_spool.specs.Sharing.{pages_sharing}
use Rattle.job_spool.proofs.sharing.pages_sharing.Given as goal

abbrev pub invariant-loop-k : goal.invariant-loop-k
invariant-loop-k l = record {
  pages : l.pages ≡ pages_sharing l.documents l.caches l.first l.k;
  few : l.pages ≤ 1000000 * l.k;
}
