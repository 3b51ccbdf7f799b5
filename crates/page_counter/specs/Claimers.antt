-- The claimers of the example.
use Rattle.std.specs.Prelude.{◌≡◌, ℕ, ◌<◌, ◌≤◌, List, [], ◌∷◌, ◌++◌, All, Contains, Some}
use Rattle.std.specs.Vec.{vec_capacity}
use Rattle.atomic_table.specs.Seated.{TableId}
use Rattle.page_counter.specs.declared.example.Claimer.{Claimer}
use Rattle.page_counter.specs.Seats.{SeatView}

-- a claimer with a seat at this counter that has claimed nothing, and with room for the numbers
-- below a bound
pub record CanNote (counter : TableId) (bound : ℕ) (w : Claimer) : Type 0 where
  pub seat : SeatView
  pub seat_is : w.seat ≡ Some seat
  pub counter_is : seat.counter ≡ counter
  pub no_claims : seat.view.claims ≡ []
  pub none_noted : w.noted.items ≡ []
  pub room : bound ≤ vec_capacity w.noted

-- a claimer that noted its claims below the bound; its last claim is not below
pub record HasClaimed (counter : TableId) (bound : ℕ) (w : Claimer) : Type 0 where
  pub seat : SeatView
  pub last : ℕ
  pub seat_is : w.seat ≡ Some seat
  pub counter_is : seat.counter ≡ counter
  pub claims_are : seat.view.claims ≡ w.noted.items ++ last ∷ []
  pub below : All (λ c. c < bound) w.noted.items
  pub reached : bound ≤ last

-- a number that is not below the bound was claimed
abbrev pub IsReached : ℕ → List ℕ → Type 0
IsReached bound claims = (c : ℕ) × Contains claims c × (bound ≤ c)
