use Rattle.std.proofs.Common.{◌≡◌, drop}
use Rattle.cache_core.specs.Machine.{claims_key}
use Rattle.std.specs.Arc.{arc_value}
use Rattle.cache_core.specs.Views.{claims_of}
use Rattle.cache_core.proofs.claims.is_claimed.Given as goal

abbrev pub invariant-loop-claim : goal.invariant-loop-claim
invariant-loop-claim l =
    claims_key (arc_value l.key) (claims_of l.claims) ≡ claims_key (arc_value l.key) (claims_of (drop l.claim-index l.claims))
