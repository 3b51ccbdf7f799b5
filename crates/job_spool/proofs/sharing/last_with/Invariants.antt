use Rattle.std.proofs.Common.{◌≡◌}
use Rattle.job_spool.specs.Sharing.{last_with}
use Rattle.job_spool.proofs.sharing.last_with.Given as goal

abbrev pub invariant-loop-k : goal.invariant-loop-k
invariant-loop-k l = last_with l.documents l.units l.fn.count ≡ last_with l.documents l.units l.k
