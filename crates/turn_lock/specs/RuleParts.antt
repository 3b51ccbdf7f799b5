-- What the rule says of each state between two steps, in words of seats, tickets, turns and
-- histories.
use Rattle.std.specs.Prelude.{◌≡◌, ◌⊎◌, ℕ, ◌^◌, ◌<◌, ◌≤◌, List, [], ◌∷◌, length, sum, Option, Some}
use mathlib.Core.Option.{none, some}
use mathlib.Core.List.{IsPrefix}
use lib.ListN.{get_elem?}
use Rattle.atomic_table.specs.Table.{State}
use Rattle.cache_core.specs.declared.calls.Call.{Call}
use Rattle.cache_core.specs.declared.common.Common.{Common}
use Rattle.cache_core.specs.Histories.{own}
use Rattle.turn_lock.specs.declared.view.View.{View}
use Rattle.turn_lock.specs.declared.view.Stage.TheVariants.{Holding}
use Rattle.turn_lock.specs.Histories.{AllMade}
use Rattle.turn_lock.specs.Views.{IsLive, HasTicket}
use Rattle.turn_lock.specs.TurnRule.{TurnRule}

module _ {T : Type 0} (s : State (Option T) View) where
  -- the view at this place is that of a seat that was not joined
  abbrev pub IsSeat : ℕ → View → Type 0
  IsSeat i v = (get_elem? s.views i ≡ some v) × IsLive v.stage

  abbrev pub IsFirst : View → Type 0
  IsFirst v = get_elem? s.views 0 ≡ some v

  abbrev pub HasSeat : ℕ → Type 0
  HasSeat n = (i : ℕ) × (v : View) × IsSeat i v × (v.number ≡ n)

  abbrev pub WasJoined : View → ℕ → Type 0
  WasJoined first n = (i : ℕ) × (get_elem? first.joined i ≡ some n)

  -- a value is in the slot
  abbrev pub IsHomeWith : T → Type 0
  IsHomeWith x = s.homes ≡ some (Some x) ∷ []

  abbrev pub IsOut : Type 0
  IsOut = s.homes ≡ none ∷ []

  -- seat 0 has a view, which counts the views; seats have different numbers, below the number of
  -- seats made, which is at most 1024; and each number below it is that of a seat or was joined,
  -- and not both
  pub record NumbersFit : Type 0 where
    pub first_there : (first : View) × IsFirst first × (first.made ≡ length s.views)
        × (first.number ≡ 0)
    pub apart : (i j : ℕ) (v w : View) → IsSeat i v → IsSeat j w → v.number ≡ w.number → i ≡ j
    pub below : (first : View) → IsFirst first → (i : ℕ) (v : View) → IsSeat i v
        → v.number < first.made
    pub known : (first : View) → IsFirst first → (n : ℕ) → n < first.made
        → HasSeat n ⊎ WasJoined first n
    pub not_both : (first : View) → IsFirst first → (n : ℕ) → HasSeat n → WasJoined first n → ⊥
    pub few : (first : View) → IsFirst first → first.made ≤ 1024

  -- the tickets of the seats that wait or hold are the numbers from serving to the next ticket,
  -- each once; at most one seat holds, and its ticket is served
  pub record TicketsFit : Type 0 where
    pub next : ℕ
    pub serving : ℕ
    pub words_are : s.words ≡ next ∷ serving ∷ []
    pub had : (n : ℕ) → serving ≤ n → n < next → (i : ℕ) × (v : View) × IsSeat i v
        × HasTicket n v.stage
    pub between : (i : ℕ) (v : View) (n : ℕ) → IsSeat i v → HasTicket n v.stage
        → (serving ≤ n) × (n < next)
    pub once : (i j : ℕ) (v w : View) (n : ℕ) → IsSeat i v → IsSeat j w → HasTicket n v.stage
        → HasTicket n w.stage → i ≡ j
    pub holder_served : (i : ℕ) (v : View) (n : ℕ) → IsSeat i v → v.stage ≡ Holding n → n ≡ serving
    pub one_holds : (i j : ℕ) (v w : View) (m n : ℕ) → IsSeat i v → IsSeat j w → v.stage ≡ Holding m
        → w.stage ≡ Holding n → i ≡ j

  -- the next ticket is the sum of the turns drawn by each number, joined ones included, of which
  -- seat 0 keeps them; none is above 2^48, so it never wraps
  pub record DrawsFit : Type 0 where
    pub draws : List ℕ
    pub one_each : length draws ≡ length s.views
    pub seat_drew : (i : ℕ) (v : View) → IsSeat i v → get_elem? draws v.number ≡ some v.drawn
    pub joined_kept : (first : View) → IsFirst first
        → length first.joined_drawn ≡ length first.joined
    pub joined_drew : (first : View) → IsFirst first → (i n d : ℕ)
        → get_elem? first.joined i ≡ some n → get_elem? first.joined_drawn i ≡ some d
        → get_elem? draws n ≡ some d
    pub each_few : (n d : ℕ) → get_elem? draws n ≡ some d → d ≤ 2 ^ 48
    pub ticket_is : get_elem? s.words 0 ≡ some (sum draws)
    pub few : sum draws ≤ 2 ^ 58

  -- the slot is out exactly while a seat holds, and the value at home has as many turns as were
  -- served
  pub record SlotIsKept (turns : T → ℕ) : Type 0 where
    pub either : IsOut ⊎ ((x : T) × IsHomeWith x)
    pub out_held : IsOut → (i : ℕ) × (v : View) × (n : ℕ) × IsSeat i v × (v.stage ≡ Holding n)
    pub held_out : (i : ℕ) (v : View) (n : ℕ) → IsSeat i v → v.stage ≡ Holding n → IsOut
    pub home_turns : (x : T) → IsHomeWith x → get_elem? s.words 1 ≡ some (turns x)

  -- all seats have one common part, and the value at home stands in it
  pub record PartIsOne (stands : T → Common → Type 0) (part : Common) : Type 0 where
    pub seat_part : (i : ℕ) (v : View) → IsSeat i v → v.part ≡ part
    pub home_stands : (x : T) → IsHomeWith x → stands x part

  -- there is one history: that of the value at home, or the one that the holder has seen. What each
  -- seat has seen begins it, and after that it has no call of the seat's number; after what seat 0
  -- has seen it has no call of a number joined; and no call is of a number that was not made
  pub record HistoryIsOne (history : T → List Call) : Type 0 where
    pub log : List Call
    pub at_home : (x : T) → IsHomeWith x → history x ≡ log
    pub at_holder : (i : ℕ) (v : View) (n : ℕ) → IsSeat i v → v.stage ≡ Holding n → v.seen ≡ log
    pub begins : (i : ℕ) (v : View) → IsSeat i v → IsPrefix v.seen log
    pub own_seen : (i : ℕ) (v : View) → IsSeat i v → own v.number v.seen ≡ own v.number log
    pub joined_seen : (first : View) → IsFirst first → (n : ℕ) → WasJoined first n
        → own n first.seen ≡ own n log
    pub made : (first : View) → IsFirst first → AllMade first.made log

module _ {T : Type 0} (history : T → List Call) (turns : T → ℕ) (stands : T → Common → Type 0) where
  abbrev pub Always : (Common → State (Option T) View → Type 0) → Type 0
  Always says =
      (part : Common) (s : State (Option T) View) → TurnRule history turns stands part s
      → says part s

  abbrev pub NumbersAlways : Type 0
  NumbersAlways = Always (λ part s. NumbersFit s)

  abbrev pub TicketsAlways : Type 0
  TicketsAlways = Always (λ part s. TicketsFit s)

  abbrev pub DrawsAlways : Type 0
  DrawsAlways = Always (λ part s. DrawsFit s)

  abbrev pub SlotAlways : Type 0
  SlotAlways = Always (λ part s. SlotIsKept s turns)

  abbrev pub PartAlways : Type 0
  PartAlways = Always (λ part s. PartIsOne s stands part)

  abbrev pub HistoryAlways : Type 0
  HistoryAlways = Always (λ part s. HistoryIsOne s history)
