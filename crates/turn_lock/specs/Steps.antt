-- What each step gives the seat that makes it.
use Rattle.std.specs.Prelude.{◌≡◌, ◌≢◌, ℕ, ◌+◌, ◌^◌, ◌<◌, List, [], ◌∷◌, length, Option, Some}
use mathlib.Core.Option.{some}
use mathlib.Core.List.{IsPrefix}
use lib.ListN.{get_elem?}
use Rattle.atomic_table.specs.Table.{Me, Step}
use Rattle.cache_core.specs.declared.calls.Call.{Call}
use Rattle.cache_core.specs.declared.common.Common.{Common}
use Rattle.cache_core.specs.Histories.{own}
use Rattle.turn_lock.specs.declared.view.View.{View}
use Rattle.turn_lock.specs.declared.view.Stage.{Stage}
use Rattle.turn_lock.specs.declared.view.Stage.TheVariants.{Comparing}
use Rattle.turn_lock.specs.Histories.{OwnsSame}
use Rattle.turn_lock.specs.Views.{ticket_of, waiting_view, holding_view, idle_view}

-- seat 0 has compared what it had seen with what the seat n had: what it has seen now goes on from
-- both, and has no more calls of number 0, of n, and of the numbers joined before; both seats have
-- one common part
pub record IsCompared (seen : List Call) (joined : List ℕ) (part : Common) (n : ℕ)
    (was theirs : List Call) (their_part : Common) : Type 0 where
  pub was_begins : IsPrefix was seen
  pub theirs_begins : IsPrefix theirs seen
  pub mine : own 0 seen ≡ own 0 was
  pub theirs_same : own n seen ≡ own n theirs
  pub before : (i m : ℕ) → get_elem? joined i ≡ some m → i + 1 < length joined
      → own m seen ≡ own m was
  pub same_part : their_part ≡ part

abbrev pub CompareGives : View → Stage → Type 0
CompareGives v (Comparing n was theirs p) = IsCompared v.seen v.joined v.part n was theirs p
CompareGives v _ = Unit {0}

module _ {T : Type 0} where
  -- the ticket that was drawn is the word that was found
  abbrev pub DrawStep : Step (Option T) → Me (Option T) View → ℕ → Me (Option T) View → Type 0
  DrawStep step before found after = after ≡ (waiting_view before.0 found, before.1)

  -- the number that seat 0 makes next has no calls
  abbrev pub AskStep : Step (Option T) → Me (Option T) View → ℕ → Me (Option T) View → Type 0
  AskStep step before found after = (after ≡ before) × (own before.0.made before.0.seen ≡ [])

  abbrev pub CompareStep : Step (Option T) → Me (Option T) View → ℕ → Me (Option T) View → Type 0
  CompareStep step before found after =
      (after ≡ (idle_view before.0 before.0.seen, before.1)) × CompareGives before.0 before.0.stage

module _ {T : Type 0} (history : T → List Call) (turns : T → ℕ) (stands : T → Common → Type 0) where
  -- the value has as many turns as the ticket, begins with what was seen, has no more calls of the
  -- seat's number and, at seat 0, of the numbers joined, and stands in the seat's common part
  pub record TakesValue (before : View) (value : T) (after : View) : Type 0 where
    pub view_is : after ≡ holding_view before (ticket_of before.stage) (history value)
    pub turns_are : turns value ≡ ticket_of before.stage
    pub few : ticket_of before.stage < 2 ^ 58
    pub stood : stands value before.part
    pub begins : IsPrefix before.seen (history value)
    pub own_same : own before.number (history value) ≡ own before.number before.seen
    pub joined_same : before.number ≡ 0 → OwnsSame before.joined (history value) before.seen

  -- where its own ticket is served the seat takes the value, and else nothing changes
  abbrev pub LookStep : Step (Option T) → Me (Option T) View → ℕ → Me (Option T) View → Type 0
  LookStep step before found after =
      (found ≡ ticket_of before.0.stage → (value : T) × (after.1 ≡ (0, Some value) ∷ [])
      × TakesValue before.0 value after.0)
      × (found ≢ ticket_of before.0.stage → after ≡ before)

module _ {T : Type 0} (history : T → List Call) where
  -- the history of the value that the seat has put into the slot
  abbrev pub carried_history : List (ℕ × Option T) → List Call
  carried_history ((k, Some value) ∷ rest) = history value
  carried_history _ = []

  -- seat 0 has then seen no more calls of the numbers joined
  abbrev pub HandOnStep : Step (Option T) → Me (Option T) View → ℕ → Me (Option T) View → Type 0
  HandOnStep step before found after =
      (after ≡ (idle_view before.0 (carried_history before.1), []))
      × (before.0.number ≡ 0 → OwnsSame before.0.joined (carried_history before.1) before.0.seen)
