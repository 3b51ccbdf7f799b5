-- Laws over the histories that seats have seen.
use Rattle.std.specs.Prelude.{◌≡◌, ℕ, List, [], ◌∷◌, ◌++◌, Some}
use Rattle.outside.specs.declared.keys.FontKey.{FontKey}
use Rattle.cache_core.specs.declared.calls.Call.{Call}
use Rattle.cache_core.specs.declared.calls.Done.TheVariants.{Claimed}
use Rattle.cache_core.specs.declared.limits.Limits.{Limits}
use Rattle.cache_core.specs.Machine.{Machine, machine_after, empty, claim_of}
use Rattle.cache_core.specs.Histories.{own, open_claim}

-- the last of the calls is a look for the key that claimed it
abbrev pub LastClaims : FontKey → List Call → Type 0
LastClaims k calls =
    (front : List Call) × (c : Call) × (calls ≡ front ++ c ∷ []) × (c.key ≡ k) × (c.done ≡ Claimed)

-- calls have left a claim to their seat exactly where the last of them is a look that claimed it
abbrev pub ClaimsAreLast : Type 0
ClaimsAreLast =
    (k : FontKey) (calls : List Call) → (open_claim calls ≡ Some k → LastClaims k calls) ×
    (LastClaims k calls → open_claim calls ≡ Some k)

-- in the state after a legal history a seat holds the claim of a key exactly where the last of its
-- own calls is a look that claimed it
abbrev pub HeldByLast : Type 0
HeldByLast = (limits : Limits) (history : List Call) (m : Machine)
    → machine_after limits empty history ≡ Some m → (seat : ℕ) (k : FontKey)
    → (claim_of seat m.claims ≡ Some k → LastClaims k (own seat history))
    × (LastClaims k (own seat history) → claim_of seat m.claims ≡ Some k)
