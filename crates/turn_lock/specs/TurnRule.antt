-- The rule of the turn lock, which holds between any two steps: of two words, of one slot, and of
-- the views of all seats. Word 0 is the next ticket and word 1 the ticket that is served; the slot
-- has the value. It is the project's own: no public standard speaks of it.
use Rattle.std.specs.Prelude.{◌≡◌, ℕ, ◌+◌, ◌^◌, ◌<◌, ◌≤◌, Bool, true, false, List, [], ◌∷◌, length, sum, Option, Some}
use mathlib.Core.Option.{none, some}
use mathlib.Core.Option as maybe
use mathlib.Core.List.{IsPrefix}
use lib.ListN.{get_elem?}
use Rattle.atomic_table.specs.Table.{State}
use Rattle.cache_core.specs.declared.calls.Call.{Call}
use Rattle.cache_core.specs.declared.common.Common.{Common}
use Rattle.cache_core.specs.Histories.{own}
use Rattle.turn_lock.specs.declared.view.View.{View}
use Rattle.turn_lock.specs.declared.view.Stage.{Stage}
use Rattle.turn_lock.specs.declared.view.Stage.TheVariants.{Idle, Waiting, Holding, Comparing, Spent}
use Rattle.turn_lock.specs.Histories.{AllMade, longer_of}
use Rattle.turn_lock.specs.Views.{IsLive, HasTicket}

-- The seats that wait or hold stand in a line, by their numbers, and the one that is served is its
-- first. The history (log) is that of the value at home; while the slot is out it is the one that
-- the holder has seen.

-- a seat that waits with this ticket stands in line
pub record IsInLine (serving : ℕ) (line : List ℕ) (number ticket : ℕ) : Type 0 where
  pub place : ℕ
  pub ticket_is : ticket ≡ serving + place
  pub stands : get_elem? line place ≡ some number

-- a seat that holds with this ticket is served, has the slot, and has seen the history
pub record IsServed (serving : ℕ) (line : List ℕ) (log : List Call) (out : Bool) (number : ℕ)
    (seen : List Call) (ticket : ℕ) : Type 0 where
  pub ticket_is : ticket ≡ serving
  pub stands : get_elem? line 0 ≡ some number
  pub slot : out ≡ true
  pub whole : seen ≡ log

module _ (serving : ℕ) (line : List ℕ) (log : List Call) (out : Bool) (number : ℕ)
    (seen : List Call) where
  abbrev pub StageFits : Stage → Type 0
  StageFits Idle = Unit {0}
  StageFits (Waiting ticket) = IsInLine serving line number ticket
  StageFits (Holding ticket) = IsServed serving line log out number seen ticket
  StageFits (Comparing _ _ _ _) = Unit {0}
  StageFits Spent = Unit {0}

-- what is true of a live view, which is the view at the place of its number
pub record LiveFits (part : Common) (serving : ℕ) (line draws : List ℕ) (log : List Call)
    (out : Bool) (number : ℕ) (v : View) : Type 0 where
  pub number_is : v.number ≡ number
  pub part_is : v.part ≡ part
  pub begins : IsPrefix v.seen log
  -- after what it has seen, the history has no call of its number
  pub after : own number v.seen ≡ own number log
  pub drew : get_elem? draws number ≡ some v.drawn
  pub stage : StageFits serving line log out number v.seen v.stage

-- seat 0 has taken in the seat n: both histories begin the one history, and have all calls of their
-- own seats
pub record ComparesTo (log : List Call) (joined : List ℕ) (seen : List Call) (n : ℕ)
    (was theirs : List Call) : Type 0 where
  pub seen_is : seen ≡ longer_of was theirs
  pub was_begins : IsPrefix was log
  pub theirs_begins : IsPrefix theirs log
  pub first_after : own 0 was ≡ own 0 log
  pub their_after : own n theirs ≡ own n log
  pub noted : (i : ℕ) × (get_elem? joined i ≡ some n)
  pub before_after : (i m : ℕ) → get_elem? joined i ≡ some m → i + 1 < length joined
      → own m was ≡ own m log

module _ (log : List Call) (joined : List ℕ) (seen : List Call) where
  abbrev pub CompareFits : Stage → Type 0
  CompareFits (Comparing n was theirs p) = ComparesTo log joined seen n was theirs
  CompareFits _ = Unit {0}

-- a seat that was taken in has the common part of the seat that took it
abbrev pub HasSamePart : Common → Stage → Type 0
HasSamePart part (Comparing _ _ _ theirs) = theirs ≡ part
HasSamePart part _ = Unit {0}

-- for each number joined seat 0 keeps the turns that it drew
pub record KeepsDraws (draws : List ℕ) (v : View) : Type 0 where
  pub one_each : length v.joined_drawn ≡ length v.joined
  pub drew : (i n d : ℕ) → get_elem? v.joined i ≡ some n → get_elem? v.joined_drawn i ≡ some d
      → get_elem? draws n ≡ some d

-- what is true of the view of seat 0
pub record FirstFits (views : List View) (log : List Call) (v : View) : Type 0 where
  pub made : v.made ≡ length views
  pub live : IsLive v.stage
  -- the numbers joined are those of the spent views
  pub are_spent : (i n : ℕ) → get_elem? v.joined i ≡ some n
      → (u : View) × (get_elem? views n ≡ some u) × (u.stage ≡ Spent)
  pub all_spent : (n : ℕ) (u : View) → get_elem? views n ≡ some u → u.stage ≡ Spent
      → (i : ℕ) × (get_elem? v.joined i ≡ some n)
  -- after what it has seen, the history has no call of a number joined
  pub after : (i n : ℕ) → get_elem? v.joined i ≡ some n → own n v.seen ≡ own n log
  pub compares : CompareFits log v.joined v.seen v.stage
  pub same_part : HasSamePart v.part v.stage

-- the words and the views. There is a view for each number made
pub record SeatsFit (part : Common) (words : List ℕ) (views : List View) (log : List Call)
    (out : Bool) (serving : ℕ) : Type 0 where
  -- the numbers of the seats that wait or hold, in the order of their tickets
  pub line : List ℕ
  -- how many turns each number drew, joined ones included
  pub draws : List ℕ
  pub words_are : words ≡ (serving + length line) ∷ serving ∷ []
  pub drew : sum draws ≡ serving + length line
  pub each_drew : (n d : ℕ) → get_elem? draws n ≡ some d → d ≤ 2 ^ 48
  pub as_many : length draws ≡ length views
  pub few : length views ≤ 1024
  -- the view of seat 0 is there
  pub begun : 1 ≤ length views
  pub in_line : (i n : ℕ) → get_elem? line i ≡ some n
      → (v : View) × (get_elem? views n ≡ some v) × HasTicket (serving + i) v.stage
  pub served : out ≡ true → (n : ℕ) × (v : View) × (get_elem? views n ≡ some v) × (v.stage
      ≡ Holding serving)
  pub each : (n : ℕ) (v : View) → get_elem? views n ≡ some v → IsLive v.stage
      → LiveFits part serving line draws log out n v
  pub first : (v : View) → get_elem? views 0 ≡ some v → FirstFits views log v
  pub keeps : (v : View) → get_elem? views 0 ≡ some v → KeepsDraws draws v
  -- no call is of a number that was not made
  pub made : AllMade (length views) log

module _ {T : Type 0} (history : T → List Call) (turns : T → ℕ) (stands : T → Common → Type 0) where
  -- the value at home has as many turns as were served, has the history, and stands in the common
  -- part
  pub record IsHome (part : Common) (log : List Call) (serving : ℕ)
      (homes : List (maybe.Option (Option T))) : Type 0 where
    pub value : T
    pub homes_are : homes ≡ some (Some value) ∷ []
    pub turns_are : turns value ≡ serving
    pub history_is : history value ≡ log
    pub stood : stands value part

  abbrev pub SlotFits : Common → List Call → ℕ → List (maybe.Option (Option T)) → Bool → Type 0
  SlotFits part log serving homes true = homes ≡ none ∷ []
  SlotFits part log serving homes false = IsHome part log serving homes

  pub record TurnRule (part : Common) (s : State (Option T) View) : Type 0 where
    pub log : List Call
    -- whether the slot is out with the seat that is served
    pub out : Bool
    pub serving : ℕ
    pub seats : SeatsFit part s.words s.views log out serving
    pub slot : SlotFits part log serving s.homes out
