-- Views, and what each step makes of the view of the seat that steps.
use Rattle.std.specs.Prelude.{◌≡◌, ℕ, ◌+◌, List, [], ◌∷◌, ◌++◌, None}
use Rattle.cache_core.specs.declared.calls.Call.{Call}
use Rattle.cache_core.specs.declared.common.Common.{Common}
use Rattle.turn_lock.specs.declared.view.View.{View}
use Rattle.turn_lock.specs.declared.view.Stage.{Stage}
use Rattle.turn_lock.specs.declared.view.Stage.TheVariants.{Idle, Waiting, Holding, Comparing, Spent}
use Rattle.turn_lock.specs.Histories.{longer_of}

-- the seat was not joined
abbrev pub IsLive : Stage → Type 0
IsLive Idle = Unit {0}
IsLive (Waiting _) = Unit {0}
IsLive (Holding _) = Unit {0}
IsLive (Comparing _ _ _ _) = Unit {0}
IsLive Spent = ⊥

-- the seat waits or holds with this ticket
abbrev pub HasTicket : ℕ → Stage → Type 0
HasTicket n Idle = ⊥
HasTicket n (Waiting t) = t ≡ n
HasTicket n (Holding t) = t ≡ n
HasTicket n (Comparing _ _ _ _) = ⊥
HasTicket n Spent = ⊥

-- the ticket that the seat waits or holds with
abbrev pub ticket_of : Stage → ℕ
ticket_of (Waiting t) = t
ticket_of (Holding t) = t
ticket_of _ = 0

-- seat 0 of a new lock
abbrev pub opening_view : Common → View
opening_view part =
    record {
      number = 0;
      stage = Idle;
      drawn = 0;
      seen = [];
      part = part;
      made = 1;
      joined = [];
      joined_drawn = [];
    }

-- what a join leaves of the view that was taken in
abbrev pub spent_view : View
spent_view =
    record {
      number = 0;
      stage = Spent;
      drawn = 0;
      seen = [];
      part = record {
        capacity = 0;
        budget = 0;
        units = record { num = 0; den = 0; mag = 0; res = 0 };
        library = None;
      };
      made = 0;
      joined = [];
      joined_drawn = [];
    }

-- after a ticket was drawn
abbrev pub waiting_view : View → ℕ → View
waiting_view v ticket = record v { stage = Waiting ticket; drawn = v.drawn + 1 }

-- after the value was taken, whose history is this
abbrev pub holding_view : View → ℕ → List Call → View
holding_view v ticket log = record v { stage = Holding ticket; seen = log }

-- after the value was given back, whose history is this
abbrev pub idle_view : View → List Call → View
idle_view v log = record v { stage = Idle; seen = log }

-- seat 0 after it split a seat off, and that seat
abbrev pub split_view : View → View
split_view v = record v { made = v.made + 1 }

abbrev pub new_view : View → View
new_view v = record {
  number = v.made;
  stage = Idle;
  drawn = 0;
  seen = v.seen;
  part = v.part;
  made = 0;
  joined = [];
  joined_drawn = [];
}

-- seat 0 after it took another seat in, which it has not compared yet
abbrev pub comparing_view : View → View → View
comparing_view v w =
    record v {
      stage = Comparing w.number v.seen w.seen w.part;
      seen = longer_of v.seen w.seen;
      joined = v.joined ++ w.number ∷ [];
      joined_drawn = v.joined_drawn ++ w.drawn ∷ [];
    }

-- the views after whole calls: after a turn was drawn and came, and after another seat was taken in
abbrev pub view_with_turn : View → ℕ → List Call → View
view_with_turn v ticket log = holding_view (waiting_view v ticket) ticket log

abbrev pub joined_view : View → View → View
joined_view v w = idle_view (comparing_view v w) (longer_of v.seen w.seen)
