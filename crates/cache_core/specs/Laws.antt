-- Laws over the machine's histories.
use Rattle.std.specs.Prelude.{◌≡◌, ◌≢◌, ◌↔◌, ℕ, ◌+◌, ◌≤◌, leb, Bool, true, false, not, ◌&&◌, ◌||◌, if◌then◌else◌, List, [], ◌∷◌, ◌++◌, filter, length, slice_get, Some, None, IsTrue, IsFalse}
use Rattle.std.specs.List.{list_any}
use Rattle.outside.specs.declared.keys.FontKey.{FontKey}
use Rattle.cache_core.specs.declared.calls.Call.{Call}
use Rattle.cache_core.specs.declared.calls.Done.{Done}
use Rattle.cache_core.specs.declared.calls.Done.TheVariants.{Hit, Claimed, Busy, Filled, Released}
use Rattle.cache_core.specs.declared.limits.Limits.{Limits}
use Rattle.cache_core.specs.Machine.{Machine, Legal, key_eq, has_key, claim_of, allows_done, machine_after, empty, weights, gone_of}
use Rattle.cache_core.specs.Histories.{own, open_claim, looks, AreOf, NoneReleased, NoneBusy, SeatCalls, WeighSo}
use Rattle.cache_core.specs.Solo.{solo_history}

abbrev pub is_claim : Done → Bool
is_claim Claimed = true
is_claim _ = false

abbrev pub is_release : Done → Bool
is_release Released = true
is_release _ = false

-- whether a font was handed in that wasn't kept
abbrev pub is_not_kept : Done → Bool
is_not_kept (Filled _ kept _) = not kept
is_not_kept _ = false

-- whether the key's font left
abbrev pub leaves_by : FontKey → Done → Bool
leaves_by k (Filled _ _ gone) = list_any (key_eq k) gone
leaves_by k _ = false

-- each prefix of a legal history is legal
abbrev pub PrefixesAreLegal : Type 0
PrefixesAreLegal =
    (limits : Limits) (xs ys : List Call) → Legal limits (xs ++ ys) → Legal limits xs

-- the test of two keys is equality: two that pass it are one, and each passes it with itself
abbrev pub KeysAreEqual : Type 0
KeysAreEqual = (a b : FontKey) → key_eq a b ≡ true → a ≡ b

abbrev pub KeysAreThemselves : Type 0
KeysAreThemselves = (k : FontKey) → key_eq k k ≡ true

-- a seat's claim is the one that the last of its calls has left to it
abbrev pub ClaimsAreOwn : Type 0
ClaimsAreOwn =
    (limits : Limits) (history : List Call) (m : Machine)
    → machine_after limits empty history ≡ Some m → (seat : ℕ)
    → claim_of seat m.claims ≡ open_claim (own seat history)

-- whether the call claims the key
abbrev pub claims_it : FontKey → Call → Bool
claims_it k c = key_eq k c.key && is_claim c.done

-- whether the key may be claimed again after the call: its font left or wasn't kept, or its claim
-- was given up
abbrev pub frees_it : FontKey → Call → Bool
frees_it k c =
    leaves_by k c.done || (key_eq k c.key && (is_not_kept c.done || is_release c.done))

-- each key is claimed at most once more than its font left, wasn't kept and its claims were given
-- up together
abbrev pub FewClaims : List Call → Type 0
FewClaims history =
    (k : FontKey) → length (filter (claims_it k) history) ≤ length (filter (frees_it k) history) + 1

-- so it is in each legal history
abbrev pub ClaimsAreFew : Type 0
ClaimsAreFew = (limits : Limits) (history : List Call) → Legal limits history → FewClaims history

-- the claim at this place of the list is the seat's on the key
abbrev pub ClaimsAt : Machine → ℕ → ℕ → FontKey → Type 0
ClaimsAt m i seat k = slice_get m.claims i ≡ Some (seat, k)

-- the claims of a state
pub record ClaimsFit (m : Machine) : Type 0 where
  -- the font of a claimed key is not resident
  pub absent : (i seat : ℕ) (k : FontKey) → ClaimsAt m i seat k → IsFalse (has_key k m.resident)
  -- a key is claimed once
  pub key_once : (i j seat other : ℕ) (k : FontKey) → ClaimsAt m i seat k → ClaimsAt m j other k
      → i ≡ j
  -- a seat has at most one claim
  pub seat_once : (i j seat : ℕ) (k l : FontKey) → ClaimsAt m i seat k → ClaimsAt m j seat l → i ≡ j
  -- it is the one that is looked up for the seat
  pub looked_up : (i seat : ℕ) (k : FontKey) → ClaimsAt m i seat k → claim_of seat m.claims ≡ Some k

-- so they are in the state after each legal history
abbrev pub ClaimsAlwaysFit : Type 0
ClaimsAlwaysFit =
    (limits : Limits) (history : List Call) (m : Machine)
    → machine_after limits empty history ≡ Some m → ClaimsFit m

-- the fonts of a state: no more than may be resident, and no heavier together
pub record FontsFit (limits : Limits) (m : Machine) : Type 0 where
  pub few : length m.resident ≤ limits.capacity
  pub light : weights m.resident ≤ limits.budget

-- so they are in the state after each legal history
abbrev pub FontsAlwaysFit : Type 0
FontsAlwaysFit =
    (limits : Limits) (history : List Call) (m : Machine)
    → machine_after limits empty history ≡ Some m → FontsFit limits m

-- how a claim is filled with a font of a weight: one way alone
abbrev pub FillsAreOne : Type 0
FillsAreOne =
    (limits : Limits) (m : Machine) (seat : ℕ) (k : FontKey) (weight : ℕ) (kept : Bool)
    (gone : List FontKey) → claim_of seat m.claims ≡ Some k
    → IsTrue (allows_done limits m seat k (Filled weight kept gone))
    ↔ ((kept ≡ leb weight limits.budget)
    × (gone ≡ (if kept then gone_of limits ((k, weight) ∷ m.resident) else [])))

-- another seat has claimed the key
abbrev pub IsClaimedByAnother : Machine → ℕ → FontKey → Type 0
IsClaimedByAnother m seat k = (other : ℕ) × (other ≢ seat) × (claim_of other m.claims ≡ Some k)

-- what a look is answered, each answer exactly there: Hit where the key is resident, else Busy
-- where another seat has claimed it, else Claimed
pub record IsLookAnswered (limits : Limits) (m : Machine) (seat : ℕ) (k : FontKey) : Type 0 where
  pub hit : IsTrue (allows_done limits m seat k Hit) ↔ IsTrue (has_key k m.resident)
  pub busy : IsTrue (allows_done limits m seat k Busy)
      ↔ (IsFalse (has_key k m.resident) × IsClaimedByAnother m seat k)
  pub claimed : IsTrue (allows_done limits m seat k Claimed)
      ↔ (IsFalse (has_key k m.resident) × ((other : ℕ) → claim_of other m.claims ≢ Some k))

-- so it is in the state after each legal history, for each seat that holds no claim
abbrev pub LooksAreAnswered : Type 0
LooksAreAnswered =
    (limits : Limits) (history : List Call) (m : Machine)
    → machine_after limits empty history ≡ Some m
    → (seat : ℕ) (k : FontKey) → claim_of seat m.claims ≡ None → IsLookAnswered limits m seat k

-- where all calls are of one seat, no look is busy
abbrev pub NoneAloneIsBusy : Type 0
NoneAloneIsBusy =
    (limits : Limits) (seat : ℕ) (history : List Call) → Legal limits history → AreOf seat history
    → NoneBusy history

-- a history of one seat that answers these keys, gives no claim up and hands in fonts of these
-- weights
pub record IsSolo (limits : Limits) (seat : ℕ) (weight : FontKey → ℕ) (keys : List FontKey)
    (history : List Call) : Type 0 where
  pub legal : Legal limits history
  pub own : AreOf seat history
  pub for_keys : SeatCalls keys history
  pub kept : NoneReleased history
  pub weighed : WeighSo weight history

-- there is one, and one only
abbrev pub SoloIsOne : Type 0
SoloIsOne = (limits : Limits) (seat : ℕ) (weight : FontKey → ℕ) (keys : List FontKey)
    (history : List Call) → IsSolo limits seat weight keys history
    → history ≡ solo_history limits seat weight keys

abbrev pub SoloIsThere : Type 0
SoloIsThere =
    (limits : Limits) (seat : ℕ) (weight : FontKey → ℕ) (keys : List FontKey)
    → IsSolo limits seat weight keys (solo_history limits seat weight keys)

-- a seat's own calls in two joined lists are those in the first and then those in the second
abbrev pub OwnsAreJoined : Type 0
OwnsAreJoined = (seat : ℕ) (xs ys : List Call) → own seat (xs ++ ys) ≡ own seat xs ++ own seat ys

-- where all calls are of one seat, its own calls are the history
abbrev pub OwnsAreHistory : Type 0
OwnsAreHistory = (seat : ℕ) (history : List Call) → AreOf seat history → own seat history ≡ history

-- the keys that a seat asked for are the keys of its looks: the entries determine them
abbrev pub KeysAreLooks : Type 0
KeysAreLooks = (keys : List FontKey) (calls : List Call) → SeatCalls keys calls → looks calls ≡ keys

-- a prefix of the keys has a prefix of the entries, and the keys after it have the entries after
-- that
abbrev pub PrefixesHaveCalls : Type 0
PrefixesHaveCalls =
    (keys after : List FontKey) (calls : List Call) → SeatCalls (keys ++ after) calls
    → (first : List Call) × (others : List Call) × (calls ≡ first ++ others) × SeatCalls keys first
    × SeatCalls after others

-- joined lists of keys have joined entries
abbrev pub CallsAreJoined : Type 0
CallsAreJoined =
    (keys after : List FontKey) (first others : List Call) → SeatCalls keys first
    → SeatCalls after others → SeatCalls (keys ++ after) (first ++ others)
