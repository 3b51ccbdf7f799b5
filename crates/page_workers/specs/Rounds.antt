-- What workers did in a round.
use Rattle.std.specs.Prelude.{◌≡◌, ◌⊎◌, ℕ, ◌+◌, ◌*◌, ◌<◌, ◌≤◌, List, [], ◌∷◌, ◌++◌, length, map, slice_index_or, Contains, Option, None, Result, Ok, Err, IsOk, IsErr, IsErrOf}
use Rattle.std.specs.List.Sorted.{IsStrictlyIncreasing}
use Rattle.outside.specs.Counts.{HasCause}
use Rattle.outside.specs.Library.{FileTable}
use Rattle.outside.specs.declared.keys.FontKey.{FontKey}
use Rattle.page_index.specs.Pages.{Indexed}
use Rattle.font_decode.specs.Decoding.{IsFontOf}
use Rattle.font_decode.specs.Desks.{Trail, TrailGrew}
use Rattle.page_draw.specs.Members.{Finding}
use Rattle.page_draw.specs.Drawn.{IsDrawn, IsStop, IsWhole}
use Rattle.page_draw.specs.Values.{value_of_drawn}
use Rattle.page_draw.specs.declared.drawn.Drawn.{Drawn}
use Rattle.page_draw.specs.declared.sheet.Sheet.{Sheet}
use Rattle.page_draw.specs.declared.stop.PageStop.{PageStop}
use Rattle.page_draw.specs.declared.stop.PageStop.TheVariants.{SourceFault}
use Rattle.page_workers.specs.declared.bench.Bench.{Bench}
use Rattle.page_workers.specs.declared.worker.PageResult.{PageResult}
use Rattle.page_workers.specs.declared.worker.Worker.{Worker}
use Rattle.page_workers.specs.Seats.{BenchFits, library_at, units_at, asked_at, trail_at, room_at}
use Rattle.vf_expand.specs.Limits.{MAX_FLAT_COMMANDS}

-- what came of a page is what its drawing says
abbrev pub IsOutcome : Finding → Indexed → Sheet → ℕ → Result Drawn PageStop
    → Option (List FontKey) → Option (List FontKey) → Type 0
IsOutcome Finds indexed sheet i (Ok drawn) old new =
    IsDrawn Finds indexed sheet i (Ok (value_of_drawn drawn)) old new
IsOutcome Finds indexed sheet i (Err stop) old new = IsStop Finds indexed sheet i stop old new

-- ---- results

-- the pages of these results
abbrev pub pages_of : List PageResult → List ℕ
pages_of results = map (λ r. r.page) results

abbrev pub HasBitmap : PageResult → Type 0
HasBitmap r = IsOk r.outcome

-- each but the last has a bitmap
abbrev pub BitmapsToLast : List PageResult → Type 0
BitmapsToLast [] = Unit {0}
BitmapsToLast (r ∷ results) = (results ≡ []) ⊎ (HasBitmap r × BitmapsToLast results)

-- one of them has none
abbrev pub LacksBitmap : List PageResult → Type 0
LacksBitmap results = (r : PageResult) × Contains results r × IsErr r.outcome

-- ---- one worker

-- the worker drew nothing
pub record DrewNothing {F : Type 0} (before after : Worker F) : Type 0 where
  pub source : after.source ≡ before.source
  pub seat : after.seat ≡ before.seat
  pub results : after.results.items ≡ before.results.items
  pub loads : after.loads ≡ before.loads
  pub pages : after.pages.items ≡ before.pages.items

-- the worker may draw n pages at this bench
pub record MayDraw {F : Type 0} (library : F → Option FileTable) (bench : Bench) (count : ℕ)
    (w : Worker F) : Type 0 where
  pub fits : BenchFits (library w.source) bench w.seat
  pub no_result : w.results.items ≡ []
  pub no_counter : w.counter ≡ None
  pub room : count * MAX_FLAT_COMMANDS ≤ room_at w.loads w.seat

abbrev pub trail_of : {F : Type 0} → (F → ℕ) → Worker F → Option Trail
trail_of loads w = trail_at (loads w.source) w.loads w.seat

module _ {F : Type 0} (library : F → Option FileTable) (faults loads : F → ℕ) where
  -- the worker drew the page of this result after the others of its round, and may draw on
  pub record DrewPage (bench : Bench) (indexed : Indexed) (sheet : Sheet) (r : PageResult)
      (before after : Worker F) : Type 0 where
    pub result : after.results.items ≡ before.results.items ++ r ∷ []
    pub pages : after.pages.items ≡ before.pages.items ++ r.page ∷ []
    pub value : IsOutcome (IsFontOf (library_at before.seat) (units_at before.seat))
        indexed sheet r.page r.outcome (asked_at before.seat) (asked_at after.seat)
    pub fits : BenchFits (library after.source) bench after.seat
    pub room : room_at before.loads before.seat ≤ room_at after.loads after.seat + MAX_FLAT_COMMANDS
    pub same_library : library_at after.seat ≡ library_at before.seat
    pub same_units : units_at after.seat ≡ units_at before.seat
    pub cause : HasCause (faults before.source) (faults after.source)
        (IsErrOf r.outcome SourceFault)
    pub trail : TrailGrew (IsWhole r.outcome) (asked_at before.seat) (asked_at after.seat)
        (trail_of loads before) (trail_of loads after)

  -- the worker drew the pages of these results, one after another
  abbrev pub Drew : Bench → Indexed → Sheet → List PageResult → Worker F → Worker F → Type 0
  Drew bench indexed sheet [] before after = DrewNothing before after
  Drew bench indexed sheet (r ∷ results) before after = (between : Worker F)
      × DrewPage bench indexed sheet r before between
      × Drew bench indexed sheet results between after

  -- ---- all workers

  -- they drew n pages from `first` on, at most `count`, each by one of them and once. A
  -- worker draws its pages in rising order, and no more after one without a bitmap
  pub record DrewRound (bench : Bench) (indexed : Indexed) (sheet : Sheet) (first count : ℕ)
      (before after : List (Worker F)) : Type 0 where
    pub pages : ℕ
    pub some : 1 ≤ pages
    pub most : pages ≤ count
    -- what worker k drew
    pub drawn : ℕ → List PageResult
    pub each : (k : ℕ) (d : Worker F) → k < length before → Drew bench indexed sheet (drawn k)
        (slice_index_or before k d) (slice_index_or after k d)
    pub rising : (k : ℕ) → k < length before → IsStrictlyIncreasing (pages_of (drawn k))
    pub inside : (k page : ℕ) → k < length before → Contains (pages_of (drawn k)) page
        → (first ≤ page) × (page < first + pages)
    pub shared : (i : ℕ) → i < pages → (k : ℕ) × (k < length before)
        × Contains (pages_of (drawn k)) (first + i)
        × ((j : ℕ) → j < length before → Contains (pages_of (drawn j)) (first + i) → j ≡ k)
    pub stopped : (k : ℕ) → k < length before → BitmapsToLast (drawn k)
    -- fewer than `count` only where one of them has no bitmap
    pub whole : pages < count → (k : ℕ) × (k < length before) × LacksBitmap (drawn k)
