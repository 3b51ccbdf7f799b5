-- How workers claim the pages of a round, by seats at its counter.
use Rattle.std.specs.Prelude.{◌≡◌, ◌⊎◌, ℕ, ◌+◌, ◌*◌, ◌<◌, ◌≤◌, List, [], ◌∷◌, ◌++◌, map, All, Bool, is_ok, Option, None, Some, Result}
use Rattle.std.specs.List.Sorted.{IsStrictlyIncreasing}
use Rattle.std.specs.Vec.{vec_len, vec_capacity}
use Rattle.atomic_table.specs.Seated.{TableId}
use Rattle.outside.specs.Library.{FileTable}
use Rattle.page_counter.specs.declared.view.SeatClaims.{SeatClaims}
use Rattle.page_counter.specs.Seats.{SeatView}
use Rattle.page_counter.specs.Views.{claimed_view}
use Rattle.page_index.specs.Pages.{Indexed}
use Rattle.page_draw.specs.declared.drawn.Drawn.{Drawn}
use Rattle.page_draw.specs.declared.sheet.Sheet.{Sheet}
use Rattle.page_draw.specs.declared.stop.PageStop.{PageStop}
use Rattle.page_workers.specs.declared.bench.Bench.{Bench}
use Rattle.page_workers.specs.declared.worker.PageResult.{PageResult}
use Rattle.page_workers.specs.declared.worker.Worker.{Worker}
use Rattle.page_workers.specs.Seats.{BenchFits, room_at}
use Rattle.page_workers.specs.SparePages.{HasNoMoreSparePages}
use Rattle.page_workers.specs.Rounds.{DrewNothing, Drew, DrewPage, BitmapsToLast, LacksBitmap, pages_of}
use Rattle.vf_expand.specs.Limits.{MAX_FLAT_COMMANDS}

-- ---- the worker's parts that a round takes

-- the worker drew nothing, and has the seat at a counter that it had
pub record DrewNothingAtCounter {F : Type 0} (before after : Worker F) : Type 0 where
  pub rested : DrewNothing before after
  pub counter : after.counter ≡ before.counter
  pub spare_pages : after.spare_pages ≡ before.spare_pages

-- room for n results and pages more was taken
pub record HasRoom {F : Type 0} (n : ℕ) (w : Worker F) : Type 0 where
  pub results : vec_len w.results + n ≤ vec_capacity w.results
  pub pages : vec_len w.pages + n ≤ vec_capacity w.pages

abbrev pub with_counter : {F : Type 0} → Worker F → Option SeatView → Worker F
with_counter w counter = record w { counter = counter }

abbrev pub claims_at : Option SeatView → List ℕ
claims_at None = []
claims_at (Some s) = s.view.claims

-- the worker has a seat of this counter
pub record HasSeat {F : Type 0} (id : TableId) (w : Worker F) : Type 0 where
  pub seat : SeatView
  pub is : w.counter ≡ Some seat
  pub counter : seat.counter ≡ id

-- the worker was given a seat of this counter that has claimed nothing
pub record GotSeat {F : Type 0} (id : TableId) (before after : Worker F) : Type 0 where
  pub seat : SeatView
  pub is : after ≡ with_counter before (Some seat)
  pub counter : seat.counter ≡ id
  pub unused : seat.view.claims ≡ []

-- the worker's seat at its counter was taken in, with these claims
pub record GaveSeat {F : Type 0} (taken : SeatClaims) (before after : Worker F) : Type 0 where
  pub seat : SeatView
  pub was : before.counter ≡ Some seat
  pub claims : taken.claims ≡ seat.view.claims
  pub is : after ≡ with_counter before None

-- ---- claims

-- the page of a round that a claim gives, where the round has one
abbrev pub IsClaimOf : ℕ → ℕ → ℕ → Option ℕ → Type 0
IsClaimOf first count claim None = count ≤ claim
IsClaimOf first count claim (Some page) = (claim < count) × (page ≡ first + claim)

-- the worker claimed a page
pub record ClaimedPage {F : Type 0} (first count : ℕ) (page : Option ℕ) (before after : Worker F)
    : Type 0 where
  pub claim : ℕ
  pub seat : SeatView
  pub was : before.counter ≡ Some seat
  pub is : after
      ≡ with_counter before (Some (record seat { view = claimed_view seat.view claim }))
  pub rises : IsStrictlyIncreasing (seat.view.claims ++ claim ∷ [])
  pub of_round : IsClaimOf first count claim page

-- ---- a worker's part of a round

-- the worker may draw n pages, as it claims them from this counter
pub record MayTakePart {F : Type 0} (library : F → Option FileTable) (bench : Bench) (id : TableId)
    (count : ℕ) (w : Worker F) : Type 0 where
  pub fits : BenchFits (library w.source) bench w.seat
  pub look_ups : count * MAX_FLAT_COMMANDS ≤ room_at w.loads w.seat
  pub space : HasRoom count w
  pub seated : HasSeat id w
  pub unused : claims_at w.counter ≡ []

-- why the worker claims no more: it has claimed what is no page of the round, or its last page has
-- no bitmap
abbrev pub ClaimsNoMore : ℕ → List ℕ → List PageResult → Type 0
ClaimsNoMore count beyond drawn = ((claim : ℕ) × (beyond ≡ claim ∷ []) × (count ≤ claim))
    ⊎ ((beyond ≡ []) × LacksBitmap drawn)

module _ {F : Type 0} (library : F → Option FileTable) (faults loads : F → ℕ) where
  -- the worker drew the page with this number, from 0, and it has a bitmap or not
  pub record DrewNext (bench : Bench) (indexed : Indexed) (sheet : Sheet) (page : ℕ)
      (has_bitmap : Bool) (before after : Worker F) : Type 0 where
    pub outcome : Result Drawn PageStop
    pub bitmap : has_bitmap ≡ is_ok outcome
    pub drew : DrewPage library faults loads bench indexed sheet
        (record { page = page; outcome = outcome }) before after
    pub counter : after.counter ≡ before.counter
    pub spare_pages : HasNoMoreSparePages before after
    pub space : (n : ℕ) → HasRoom (n + 1) before → HasRoom n after

  -- the worker drew the pages that it claimed, as long as each had a bitmap
  pub record TookPart (bench : Bench) (indexed : Indexed) (sheet : Sheet) (id : TableId)
      (first count : ℕ) (before after : Worker F) : Type 0 where
    pub drawn : List PageResult
    pub drew : Drew library faults loads bench indexed sheet drawn before after
    pub seated : HasSeat id after
    pub claimed : List ℕ
    pub beyond : List ℕ
    pub claims : claims_at after.counter ≡ claimed ++ beyond
    pub rises : IsStrictlyIncreasing (claims_at after.counter)
    pub below : All (λ claim. claim < count) claimed
    pub pages : pages_of drawn ≡ map (λ claim. first + claim) claimed
    pub stopped : BitmapsToLast drawn
    pub over : ClaimsNoMore count beyond drawn
    pub spare_pages : HasNoMoreSparePages before after
