use Rattle.std.proofs.Common.{◌≡◌, ◌++◌, nat_eq, take, drop}
use Rattle.std.specs.Map.{lookup, remove_entry}
use Rattle.cache_core.specs.Views.{claims_of}
use Rattle.cache_core.proofs.claims.end.Given as goal

abbrev pub invariant-loop-at : goal.invariant-loop-at
invariant-loop-at l = record {
  same : l.claims ≡ l.fn.claims;
  found : lookup (nat_eq l.seat) (claims_of l.claims.items) ≡ lookup (nat_eq l.seat) (claims_of (drop l.at l.claims.items));
  rest : remove_entry (nat_eq l.seat) (claims_of l.claims.items)
      ≡ claims_of (take l.at l.claims.items) ++ remove_entry (nat_eq l.seat) (claims_of (drop l.at l.claims.items));
}
