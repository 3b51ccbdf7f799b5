-- Views, and what each step makes of the view of the seat that steps.
use Rattle.std.specs.Prelude.{ℕ, ◌+◌, true, false, cond, List, [], ◌∷◌, ◌++◌, map, flat_map}
use Rattle.page_counter.specs.declared.view.SeatClaims.{SeatClaims}
use Rattle.page_counter.specs.declared.view.View.{View}
use Rattle.page_counter.specs.declared.view.SeatState.{SeatState}

-- the claims of seats, and their numbers
abbrev pub claims_of : List SeatClaims → List ℕ
claims_of seats = flat_map (λ s. s.claims) seats

abbrev pub numbers_of : List SeatClaims → List ℕ
numbers_of seats = map (λ s. s.number) seats

-- a seat's own claims, and those that it keeps
abbrev pub known_claims : View → List ℕ
known_claims v = v.claims ++ claims_of v.joined

abbrev pub seat_claims : View → SeatClaims
seat_claims v = record { number = v.number; claims = v.claims }

-- seat 0 of a new counter
abbrev pub first_view : View
first_view = record { number = 0; claims = []; made = 1; joined = [] }

-- after a number was claimed
abbrev pub claimed_view : View → ℕ → View
claimed_view v claim = record v { claims = v.claims ++ claim ∷ [] }

-- seat 0 after it split a seat off, and that seat
abbrev pub split_view : View → View
split_view v = record v { made = v.made + 1 }

abbrev pub new_view : View → View
new_view v = record { number = v.made; claims = []; made = 0; joined = [] }

-- seat 0 after it took another seat in
abbrev pub joined_view : View → View → View
joined_view v w = record v { joined = v.joined ++ seat_claims w ∷ [] }

-- ---- what the rule knows of a seat

-- the seats whose claims stand in a view: the seat's own, and those that it keeps; none, once it
-- was joined
abbrev pub seats_of : SeatState → List SeatClaims
seats_of s = cond s.live (seat_claims s.view ∷ s.view.joined) []

abbrev pub all_seats : List SeatState → List SeatClaims
all_seats states = flat_map seats_of states

abbrev pub live_with : View → SeatState
live_with v = record { live = true; view = v }

abbrev pub first_state : SeatState
first_state = live_with first_view

abbrev pub claimed_state : SeatState → ℕ → SeatState
claimed_state s claim = record s { view = claimed_view s.view claim }

abbrev pub split_state : SeatState → SeatState
split_state s = record s { view = split_view s.view }

abbrev pub new_state : SeatState → SeatState
new_state s = live_with (new_view s.view)

abbrev pub joined_state : SeatState → SeatState → SeatState
joined_state s t = record s { view = joined_view s.view t.view }

-- what a join leaves of the seat that was taken in
abbrev pub spent_state : SeatState
spent_state =
    record { live = false; view = record { number = 0; claims = []; made = 0; joined = [] } }
