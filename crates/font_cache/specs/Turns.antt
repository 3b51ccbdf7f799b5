-- What one turn at the cache tells its seat.
use Rattle.std.specs.Prelude.{◌≡◌, ◌+◌, List, [], ◌∷◌, ◌++◌, Some, None, Result, Ok, Err, IsTrue}
use Rattle.std.specs.Arc.{arc_value}
use Rattle.std.specs.declared.alloc.Global.{Global}
use Rattle.std.specs.declared.sync.Arc.{Arc}
use mathlib.Core.List.{IsPrefix}
use Rattle.outside.specs.declared.keys.FontKey.{FontKey}
use Rattle.cache_core.specs.Histories.{own, open_claim, left_by}
use Rattle.cache_core.specs.Hits.{hits, TakesAll, FirstIsMissing}
use Rattle.cache_core.specs.declared.limits.Limits.{Limits}
use Rattle.cache_core.specs.Machine.{Machine, Legal, empty, machine_after, allows}
use Rattle.cache_core.specs.States.{call, limits_of}
use Rattle.cache_core.specs.declared.calls.Call.{Call}
use Rattle.cache_core.specs.declared.calls.Done.{Done}
use Rattle.cache_core.specs.declared.common.Common.{Common}
use Rattle.cache_core.specs.declared.entry.Fill.{Fill}
use Rattle.cache_core.specs.declared.entry.Filling.{Filling}
use Rattle.cache_core.specs.declared.entry.Look.{Look}
use Rattle.cache_core.specs.declared.entry.Look.TheVariants.{Hit, Claimed, Busy}
use Rattle.turn_lock.specs.declared.view.View.{View}
use Rattle.turn_lock.specs.declared.view.Stage.TheVariants.{Idle}
use Rattle.turn_lock.specs.Histories.{OwnsSame}
use Rattle.turn_lock.specs.Seats.{SeatView}

-- the history that the seat has seen after the turn: it begins with what it had seen, other seats
-- may have called since, and its last call is this one, which the machine allows in the state that
-- the calls before it have led to
pub record EndsWithCall (limits : Limits) (c : Call) (before after : List Call) : Type 0 where
  pub log : List Call
  pub begins : IsPrefix before log
  pub state : Machine
  pub reached : machine_after limits empty log ≡ Some state
  pub allowed : IsTrue (allows limits state c)
  pub ends : after ≡ log ++ c ∷ []

-- what a turn makes of its seat, whatever was called
pub record TookTurn (before after : SeatView) : Type 0 where
  -- the seat is of the lock that it was of
  pub lock : after.lock ≡ before.lock
  -- it has handed the turn on, and waits for none
  pub idle : after.view.stage ≡ Idle
  pub number : after.view.number ≡ before.view.number
  -- it drew one turn more
  pub drawn : after.view.drawn ≡ before.view.drawn + 1
  pub common_part : after.view.part ≡ before.view.part
  -- what seat 0 knows of the others: how many seats were made, which were joined, and how many
  -- turns those drew
  pub made : after.view.made ≡ before.view.made
  pub joined : after.view.joined ≡ before.view.joined
  pub joined_drawn : after.view.joined_drawn ≡ before.view.joined_drawn

-- what the seat has then seen, whether the call was noted or refused
pub record SawMore (before after : View) : Type 0 where
  -- the history goes on from what the seat had seen
  pub begins : IsPrefix before.seen after.seen
  -- it is legal for the capacity and the budget of the common part
  pub legal : Legal (limits_of before.part) after.seen
  -- seat 0 has seen no more calls of the numbers that it joined
  pub joined_same : before.number ≡ 0 → OwnsSame before.joined after.seen before.seen

-- the call of the key was noted, with what it did
pub record NotedCall (k : FontKey) (d : Done) (before after : View) : Type 0 where
  -- it is the last of the history that the seat has seen, and what the machine allows after those
  -- before it
  pub last : EndsWithCall (limits_of before.part) (call before.number k d) before.seen after.seen
  -- the seat holds the claim that it leaves
  pub claim : open_claim (own before.number after.seen) ≡ left_by k d
  -- the seat's own calls grew by it alone
  pub own : own before.number after.seen ≡ own before.number before.seen ++ call before.number k d
      ∷ []

-- the history that the seat has seen after the turn: it begins with what it had seen, other seats
-- may have called since, and it ends with these calls, each of which the machine allows in the
-- state that the calls before it have led to
pub record EndsWithCalls (limits : Limits) (calls before after : List Call) : Type 0 where
  pub log : List Call
  pub begins : IsPrefix before log
  pub state : Machine
  pub reached : machine_after limits empty log ≡ Some state
  pub later : Machine
  pub taken : TakesAll limits state later calls
  pub ends : after ≡ log ++ calls

-- looks for the first of these keys were noted as hits, and the others are left
pub record NotedLooks (keys left : List FontKey) (before after : View) : Type 0 where
  pub noted : List FontKey
  pub taken_out : keys ≡ noted ++ left
  -- they are the last of the history that the seat has seen
  pub last : EndsWithCalls (limits_of before.part) (hits before.number noted) before.seen after.seen
  -- the seat holds no claim
  pub claim : open_claim (own before.number after.seen) ≡ None
  -- the seat's own calls grew by them alone
  pub own : own before.number after.seen ≡ own before.number before.seen
      ++ hits before.number noted

-- the first of the keys, if there is one, isn't resident in the state after what the seat has seen
abbrev pub StopsAtMissing : List FontKey → View → Type 0
StopsAtMissing keys now = (state : Machine)
    → machine_after (limits_of now.part) empty now.seen ≡ Some state
    → FirstIsMissing keys state.resident

-- the call was refused: the seat's own calls are as before
abbrev pub NotedNothing : View → View → Type 0
NotedNothing before after = own before.number after.seen ≡ own before.number before.seen

-- the font that a hit gives is the one of its key in the common part
abbrev pub HitStands : {T : Type 0} → (T → FontKey → Common → Type 0) → Look T → FontKey → Common
    → Type 0
HitStands stands_for (Hit font) k part = stands_for (arc_value font) k part
HitStands stands_for Claimed k part = Unit {0}
HitStands stands_for Busy k part = Unit {0}

-- the answer of a fill without the fonts that it lets go
abbrev pub told_of : {T : Type 0} → Result (Filling T) (Arc T Global) → Result Fill (Arc T Global)
told_of (Ok filling) = Ok filling.fill
told_of (Err font) = Err font
