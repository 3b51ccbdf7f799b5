-- Seats that workers are given, and that are taken in again.
use Rattle.std.specs.Prelude.{◌≡◌, ℕ, zero, suc, List, [], ◌∷◌, ◌++◌, Some, None}
use mathlib.Core.List.{IsPrefix}
use Rattle.atomic_table.specs.Seated.{TableId}
use Rattle.cache_core.specs.declared.calls.Call.{Call}
use Rattle.cache_core.specs.declared.common.Common.{Common}
use Rattle.cache_core.specs.Histories.{own}
use Rattle.turn_lock.specs.Seats.{SeatView}
use Rattle.turn_lock.specs.declared.view.Stage.TheVariants.{Idle}
use Rattle.page_workers.specs.declared.worker.Worker.{Worker}
use Rattle.page_workers.specs.Seats.{own_calls}

-- 1, 2, .., n
abbrev pub numbers : ℕ → List ℕ
numbers zero = []
numbers (suc n) = numbers n ++ suc n ∷ []

-- a worker as it was made
pub record IsUnused {F : Type 0} (w : Worker F) : Type 0 where
  pub seat : w.seat ≡ None
  pub none : w.results.items ≡ []
  pub loads : w.loads ≡ 0
  pub pages : w.pages.items ≡ []
  pub counter : w.counter ≡ None

-- a worker but for its seat
pub record SameElse {F : Type 0} (before after : Worker F) : Type 0 where
  pub source : after.source ≡ before.source
  pub results : after.results.items ≡ before.results.items
  pub loads : after.loads ≡ before.loads
  pub pages : after.pages.items ≡ before.pages.items
  pub counter : after.counter ≡ before.counter

-- a new seat of this lock with this number
pub record IsNewSeat (id : TableId) (common : Common) (n : ℕ) (s : SeatView) : Type 0 where
  pub lock : s.lock ≡ id
  pub number : s.view.number ≡ n
  pub idle : s.view.stage ≡ Idle
  pub drawn : s.view.drawn ≡ 0
  pub part : s.view.part ≡ common
  pub no_call : own_calls s ≡ []

-- the worker was given such a seat, and nothing else
pub record WasSeated {F : Type 0} (id : TableId) (common : Common) (n : ℕ)
    (before after : Worker F) : Type 0 where
  pub same : SameElse before after
  pub seat : SeatView
  pub is : after.seat ≡ Some seat
  pub new : IsNewSeat id common n seat

-- the worker has the seat of this lock with this number, which may be joined
pub record MayLeave {F : Type 0} (id : TableId) (n : ℕ) (w : Worker F) : Type 0 where
  pub seat : SeatView
  pub is : w.seat ≡ Some seat
  pub lock : seat.lock ≡ id
  pub number : seat.view.number ≡ n
  pub idle : seat.view.stage ≡ Idle

-- the seat was joined: the history goes on from what it had seen, and of its number it has just the
-- seat's own calls
pub record HasLeft {F : Type 0} (history : List Call) (n : ℕ) (before after : Worker F)
    : Type 0 where
  pub same : SameElse before after
  pub none : after.seat ≡ None
  pub seat : SeatView
  pub is : before.seat ≡ Some seat
  pub begins : IsPrefix seat.view.seen history
  pub own : own n history ≡ own_calls seat
