use Rattle.std.proofs.Common.{◌≡◌, length}
use Rattle.job_spool.specs.Sharing.{caches_below}
use Rattle.job_spool.proofs.sharing.share_caches.Given as goal

abbrev pub invariant-loop-k : goal.invariant-loop-k
invariant-loop-k l = record {
  are : l.caches.items ≡ caches_below l.documents l._k;
  count : length l.caches.items ≡ l._k;
}
