-- The rule of the page counter, which holds between any two steps: of its one word, and of the
-- views of all seats. The word is how many numbers were claimed. It is the project's own: no public
-- standard speaks of it.
use Rattle.std.specs.Prelude.{◌≡◌, ◌≢◌, ℕ, ◌≤◌, true, List, [], ◌∷◌, All, length}
use Rattle.std.specs.List.Sorted.{IsStrictlyIncreasing}
use mathlib.Core.Option.{some}
use lib.ListN.{get_elem?}
use Rattle.atomic_table.specs.Table.{State}
use Rattle.page_counter.specs.declared.view.View.{View}
use Rattle.page_counter.specs.declared.view.SeatState.{SeatState}
use Rattle.page_counter.specs.Numbers.{EachOnce}
use Rattle.page_counter.specs.Views.{claims_of, numbers_of, all_seats}

-- a seat's claims rise, and are at most 64
abbrev pub ClaimsFit : List ℕ → Type 0
ClaimsFit claims = IsStrictlyIncreasing claims × (length claims ≤ 64)

-- what is true of a live view, which is the view at the place of its number
pub record LiveFits (made number : ℕ) (v : View) : Type 0 where
  pub number_is : v.number ≡ number
  -- seat 0 counts the seats made, and it alone keeps others
  pub made_is : number ≡ 0 → v.made ≡ made
  pub other_is : number ≢ 0 → (v.made ≡ 0) × (v.joined ≡ [])
  pub own_fit : ClaimsFit v.claims
  pub joined_fit : All (λ s. ClaimsFit s.claims) v.joined

pub record CounterRule (s : State (Unit {0}) SeatState) : Type 0 where
  pub claimed : ℕ
  pub words_are : s.words ≡ claimed ∷ []
  -- the claims of all live and joined seats are the numbers below the word, each once
  pub claims_once : EachOnce claimed (claims_of (all_seats s.views))
  -- the numbers of all live and joined seats are those below the number of seats made, each once
  pub numbers_once : EachOnce (length s.views) (numbers_of (all_seats s.views))
  pub few : length s.views ≤ 33
  pub each : (n : ℕ) (p : SeatState) → get_elem? s.views n ≡ some p → p.live ≡ true
      → LiveFits (length s.views) n p.view
