-- That a new lock meets its rule, and that each kind of step keeps it, whatever the other seats did
-- before; and what the own calls of seats tell of a history.
use Rattle.std.specs.Prelude.{◌≡◌, ◌≢◌, ℕ, ◌+◌, ◌%◌, ◌^◌, ◌<◌, Bool, List, [], ◌∷◌, Option, Some, Contains}
use Rattle.std.specs.List.{AllPass}
use mathlib.Core.List.{IsPrefix}
use mathlib.Core.Option.{none}
use Rattle.atomic_table.specs.Table.{Me, step, Allows, Splits, Joins, opening}
use Rattle.cache_core.specs.declared.calls.Call.{Call}
use Rattle.cache_core.specs.declared.common.Common.{Common}
use Rattle.turn_lock.specs.declared.view.View.{View}
use Rattle.turn_lock.specs.declared.view.Stage.TheVariants.{Idle, Waiting, Holding, Comparing}
use Rattle.cache_core.specs.Histories.{own}
use Rattle.turn_lock.specs.Histories.{AllMade, Grows}
use Rattle.turn_lock.specs.Views.{IsLive, opening_view, spent_view, split_view, new_view, comparing_view}
use Rattle.turn_lock.specs.TurnRule.{TurnRule}
use Rattle.turn_lock.specs.Steps.{DrawStep, LookStep, HandOnStep, AskStep, CompareStep}

module _ {T : Type 0} (history : T → List Call) (turns : T → ℕ) (stands : T → Common → Type 0) where
  abbrev pub MakeKeeps : Type 0
  MakeKeeps = (part : Common) (value : T) → turns value ≡ 0 → history value ≡ [] → stands value part
      → TurnRule history turns stands part (opening (0 ∷ 0 ∷ []) (Some value ∷ [])
      (opening_view part))

  -- a draw adds 1 to word 0
  abbrev pub DrawKeeps : Type 0
  DrawKeeps = (part : Common) (slots id : ℕ) (me : Me (Option T) View) → me.0.stage ≡ Idle
      → me.0.drawn < 2 ^ 48
      → Allows (TurnRule history turns stands part) slots id me 0 (λ n. (n + 1) % 2 ^ 64)
      (DrawStep (step slots 0 1 0 none) me)

  -- a look reads word 1
  abbrev pub LookKeeps : Type 0
  LookKeeps = (part : Common) (slots id : ℕ) (me : Me (Option T) View) (ticket : ℕ)
      → me.0.stage ≡ Waiting ticket → me.1 ≡ []
      → Allows (TurnRule history turns stands part) slots id me 1 (λ n. n)
      (LookStep history turns stands (step slots 1 0 0 none) me)

  -- handing on writes the next ticket into word 1, and the slot goes home with a value that had its
  -- turn
  abbrev pub HandOnKeeps : Type 0
  HandOnKeeps =
      (part : Common) (slots id : ℕ) (me : Me (Option T) View) (ticket next : ℕ) (value : T)
      → me.0.stage ≡ Holding ticket → me.1 ≡ (0, Some value) ∷ []
      → next ≡ ticket + 1 → turns value ≡ ticket + 1 → stands value me.0.part
      → Grows me.0.number me.0.seen (history value)
      → Allows (TurnRule history turns stands part) slots id me 1 (λ _. next)
      (λ _. HandOnStep history (step slots 1 next 0 none) me next)

  -- before a split seat 0 reads word 0
  abbrev pub AskKeeps : Type 0
  AskKeeps = (part : Common) (slots id : ℕ) (me : Me (Option T) View) → me.0.number ≡ 0
      → IsLive me.0.stage
      → Allows (TurnRule history turns stands part) slots id me 0 (λ n. n)
      (AskStep (step slots 0 0 0 none) me)

  abbrev pub SplitKeeps : Type 0
  SplitKeeps = (part : Common) (id : ℕ) (v : View) → v.number ≡ 0 → IsLive v.stage → v.made < 1024
      → Splits (TurnRule history turns stands part) id v (split_view v) (new_view v)

  abbrev pub JoinKeeps : Type 0
  JoinKeeps = (part : Common) (id : ℕ) (v : View) (other : ℕ) (w : View) → v.number ≡ 0
      → v.stage ≡ Idle → w.stage ≡ Idle → Joins (TurnRule history turns stands part) id v other w
      (comparing_view v w) spent_view

  -- the comparison reads word 0
  abbrev pub CompareKeeps : Type 0
  CompareKeeps =
      (part : Common) (slots id : ℕ) (me : Me (Option T) View) (n : ℕ) (was theirs : List Call)
      (p : Common) → me.0.number ≡ 0 → me.0.stage ≡ Comparing n was theirs p
      → Allows (TurnRule history turns stands part) slots id me 0 (λ m. m)
      (CompareStep (step slots 0 0 0 none) me)

-- ---- own calls

-- each call of the history is one of its seat's own, and the seat was made
abbrev pub CallsAreOwn : Type 0
CallsAreOwn =
    (made : ℕ) (history : List Call) → AllMade made history → (c : Call) → Contains history c
    → (c.seat < made) × Contains (own c.seat history) c

-- a test that each made seat's own calls pass is passed by all calls of the history
abbrev pub OwnCallsDetermineAll : Type 0
OwnCallsDetermineAll =
    (made : ℕ) (passes : Call → Bool) (history : List Call) → AllMade made history
    → ((seat : ℕ) → seat < made → AllPass passes (own seat history)) → AllPass passes history

-- where no other seat that was made has called, the calls of one are the history
abbrev pub AloneIsHistory : Type 0
AloneIsHistory =
    (made seat : ℕ) (history : List Call) → AllMade made history
    → ((other : ℕ) → other < made → other ≢ seat → own other history ≡ [])
    → own seat history ≡ history

-- a prefix with all calls of each seat that was made is the history
abbrev pub OwnsAreWhole : Type 0
OwnsAreWhole =
    (made : ℕ) (first history : List Call) → IsPrefix first history → AllMade made history
    → ((seat : ℕ) → seat < made → own seat first ≡ own seat history) → first ≡ history
