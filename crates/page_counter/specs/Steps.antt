-- What a claim gives the seat that makes it.
use Rattle.std.specs.Prelude.{◌≡◌, ℕ, ◌*◌, ◌<◌, ◌≤◌, All, length}
use Rattle.std.specs.List.Sorted.{IsStrictlyIncreasing}
use Rattle.atomic_table.specs.Table.{Me, Step}
use Rattle.page_counter.specs.declared.view.View.{View}
use Rattle.page_counter.specs.declared.view.SeatState.{SeatState}
use Rattle.page_counter.specs.Views.{known_claims, claimed_view, claimed_state}
use Rattle.page_counter.specs.Seats.{AllJoined}

-- the number is above all that the seat knows, and is no less than how many it knows; where it
-- knows all it is their count
pub record ClaimGives (v : View) (claim : ℕ) : Type 0 where
  pub rises : IsStrictlyIncreasing (claimed_view v claim).claims
  pub above : All (λ c. c < claim) (known_claims v)
  pub least : length (known_claims v) ≤ claim
  pub few : claim < 33 * 64
  pub all_known : AllJoined v → claim ≡ length (known_claims v)

-- the number claimed is the word that was found
abbrev pub ClaimStep : Step (Unit {0}) → Me (Unit {0}) SeatState → ℕ → Me (Unit {0}) SeatState
    → Type 0
ClaimStep step before found after =
    (after ≡ (claimed_state before.0 found, before.1)) × ClaimGives before.0.view found
