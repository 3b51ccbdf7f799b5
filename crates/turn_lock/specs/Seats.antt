-- How contracts see a seat, and what they ask of it.
use Rattle.std.specs.Prelude.{◌≡◌, ℕ, ◌^◌, ◌<◌, [], ◌∷◌, Option, Some, None}
use mathlib.Core.Option.{some}
use lib.ListN.{get_elem?}
use Rattle.atomic_table.specs.Table.{Me}
use Rattle.atomic_table.specs.Seated.{TableId}
use Rattle.turn_lock.specs.declared.view.View.{View}
use Rattle.turn_lock.specs.declared.view.Stage.{Stage}
use Rattle.turn_lock.specs.declared.view.Stage.TheVariants.{Idle, Waiting, Holding, Comparing, Spent}

-- the lock that it is of, and what it knows
pub record SeatView : Type 0 where
  pub lock : TableId
  pub view : View

-- the seat has the turn
abbrev pub IsHolding : Stage → Type 0
IsHolding Idle = ⊥
IsHolding (Waiting _) = ⊥
IsHolding (Holding _) = Unit {0}
IsHolding (Comparing _ _ _ _) = ⊥
IsHolding Spent = ⊥

-- each seat that was made was joined, but for seat 0
abbrev pub AllJoined : View → Type 0
AllJoined v = (n : ℕ) → 0 < n → n < v.made → (i : ℕ) × (get_elem? v.joined i ≡ some n)

-- between two calls a seat is idle, or has its turn: then it has the ticket and the slot, from
-- which the value was taken
abbrev pub IsKept : {T : Type 0} → Option ℕ → Me (Option T) View → Type 0
IsKept None me = (me.0.stage ≡ Idle) × (me.1 ≡ [])
IsKept (Some ticket) me =
    (me.0.stage ≡ Holding ticket) × (me.1 ≡ (0, None) ∷ []) × (ticket < 2 ^ 58)
