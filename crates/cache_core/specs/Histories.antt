-- What the calls of one seat are.
use Rattle.std.specs.Prelude.{◌≡◌, ◌≢◌, ◌⊎◌, ℕ, Bool, ◌==◌, List, [], ◌∷◌, ◌++◌, filter, Option, Some, None}
use Rattle.outside.specs.declared.keys.FontKey.{FontKey}
use Rattle.cache_core.specs.declared.calls.Call.{Call}
use Rattle.cache_core.specs.declared.calls.Done.{Done}
use Rattle.cache_core.specs.declared.calls.Done.TheVariants.{Hit, Claimed, Busy, Filled, Released}

-- the calls of a seat, in order
abbrev pub own : ℕ → List Call → List Call
own seat history = filter (λ c. c.seat == seat) history

-- the claim that a call leaves to its seat
abbrev pub left_by : FontKey → Done → Option FontKey
left_by k Claimed = Some k
left_by k Hit = None
left_by k Busy = None
left_by k (Filled _ _ _) = None
left_by k Released = None

-- the claim that the last of a seat's calls has left to it, or the one that it began with
abbrev pub open_from : Option FontKey → List Call → Option FontKey
open_from claim [] = claim
open_from claim (c ∷ calls) = open_from (left_by c.key c.done) calls

abbrev pub open_claim : List Call → Option FontKey
open_claim calls = open_from None calls

-- a font was handed in
abbrev pub IsFilled : Done → Type 0
IsFilled done =
    (weight : ℕ) × (kept : Bool) × (gone : List FontKey) × (done ≡ Filled weight kept gone)

-- how a seat's look for a key was answered, and its claim ended: one call or two
abbrev pub IsAnswer : FontKey → List Call → Type 0
IsAnswer k calls =
    ((c : Call) × (calls ≡ c ∷ []) × (c.key ≡ k) × ((c.done ≡ Hit) ⊎ (c.done ≡ Busy)))
    ⊎ ((c : Call) × (d : Call) × (calls ≡ c ∷ d ∷ []) × (c.key ≡ k) × (c.done ≡ Claimed)
    × (d.key ≡ k)
    × (IsFilled d.done ⊎ (d.done ≡ Released)))

-- the keys that a seat asked for and the calls of that seat, in order
abbrev pub SeatCalls : List FontKey → List Call → Type 0
SeatCalls [] calls = calls ≡ []
SeatCalls (k ∷ asked) calls =
    (first : List Call) × (others : List Call) × (calls ≡ first ++ others) × IsAnswer k first
    × SeatCalls asked others

-- each call is of this seat
abbrev pub AreOf : ℕ → List Call → Type 0
AreOf seat [] = Unit {0}
AreOf seat (c ∷ calls) = (c.seat ≡ seat) × AreOf seat calls

-- no call gives a claim up
abbrev pub NoneReleased : List Call → Type 0
NoneReleased [] = Unit {0}
NoneReleased (c ∷ calls) = (c.done ≢ Released) × NoneReleased calls

-- the weight of a font that was handed in is one that a font of its key may have
abbrev pub weighs_as : (FontKey → ℕ → Type 0) → FontKey → Done → Type 0
weighs_as IsWeight k (Filled w _ _) = IsWeight k w
weighs_as IsWeight k _ = Unit {0}

-- and so it is of each
abbrev pub AllWeigh : (FontKey → ℕ → Type 0) → List Call → Type 0
AllWeigh IsWeight [] = Unit {0}
AllWeigh IsWeight (c ∷ calls) = weighs_as IsWeight c.key c.done × AllWeigh IsWeight calls

-- each font that was handed in weighs what its key's font weighs
abbrev pub WeighSo : (FontKey → ℕ) → List Call → Type 0
WeighSo weight calls = AllWeigh (λ k w. w ≡ weight k) calls

-- no look is answered that another seat has claimed the key
abbrev pub NoneBusy : List Call → Type 0
NoneBusy [] = Unit {0}
NoneBusy (c ∷ calls) = (c.done ≢ Busy) × NoneBusy calls

-- the keys of looks, in order
abbrev pub look_of : FontKey → Done → List FontKey
look_of k Hit = k ∷ []
look_of k Claimed = k ∷ []
look_of k Busy = k ∷ []
look_of k (Filled _ _ _) = []
look_of k Released = []

abbrev pub looks : List Call → List FontKey
looks [] = []
looks (c ∷ calls) = look_of c.key c.done ++ looks calls
