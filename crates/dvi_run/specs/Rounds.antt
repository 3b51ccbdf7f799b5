-- Workers that draw the pages of a document in rounds.
use Rattle.std.specs.Prelude.{◌≡◌, ◌⊎◌, ℕ, ◌+◌, ◌*◌, ◌≤◌, Bool, cond, List, [], ◌∷◌, ◌++◌, drop, length, Option, Some, None, Result, Ok, Err, IfSome}
use Rattle.std.specs.Io.KnownBytes.{Appends}
use Rattle.outside.specs.Counts.{Rose}
use Rattle.outside.specs.Library.{FileTable}
use Rattle.outside.specs.Streams.{AppendsPrefix}
use Rattle.outside.specs.declared.keys.FontKey.{FontKey}
use Rattle.page_index.specs.Document.{Reading, pages_begun}
use Rattle.page_index.specs.Pages.{Indexed, document_units}
use Rattle.pixel_round.specs.Preamble.{AreUnits}
use Rattle.turn_lock.specs.Seats.{SeatView}
use Rattle.turn_lock.specs.Views.{opening_view}
use Rattle.cache_core.specs.declared.calls.Call.{Call}
use Rattle.cache_core.specs.declared.limits.Limits.{Limits}
use Rattle.cache_core.specs.Histories.{AllWeigh, own, SeatCalls, NoneReleased, looks}
use Rattle.font_decode.specs.Desks.{TrailGrew, ReleasedLast, Loaded, LoadedFiles, files_loaded, misses}
use Rattle.font_decode.specs.Loads.{MAX_LOADS}
use Rattle.font_decode.specs.Weights.{IsWeightOf}
use Rattle.vf_expand.specs.Faults.{value_of_fault}
use Rattle.page_draw.specs.Values.{DrawnValue, fault_at, value_of_drawn}
use Rattle.page_draw.specs.declared.sheet.Sheet.{Sheet}
use Rattle.page_draw.specs.declared.stop.PageStop.{PageStop}
use Rattle.page_draw.specs.declared.stop.PageStop.TheVariants as draw
use Rattle.page_draw.specs.declared.drawn.Drawn.{Drawn}
use Rattle.page_workers.specs.declared.bench.Bench.{Bench}
use Rattle.page_workers.specs.declared.worker.Worker.{Worker}
use Rattle.page_workers.specs.Seats.{BenchFits, asked_at, library_at, units_at, room_at, own_calls}
use Rattle.page_workers.specs.SparePages.{HasNoSparePages}
use Rattle.page_workers.specs.Rounds.{trail_of}
use Rattle.dvi_run.specs.Pages.{Setup, IsValueOf, black_in, finding, text_of}
use Rattle.dvi_run.specs.Looked.{BrokenLooks, WholeLooks}
use Rattle.dvi_run.specs.Shares.{pages_since}
use Rattle.dvi_run.specs.declared.pages.WriteStop.{WriteStop}
use Rattle.dvi_run.specs.declared.pages.WriteStop.TheVariants as stop
use Rattle.vf_expand.specs.Limits.{MAX_FLAT_COMMANDS}

-- what all of a run's rounds have in common
pub record Site (F : Type 0) : Type 0 where
  pub library : F → Option FileTable
  pub faults : F → ℕ
  pub loads : F → ℕ
  pub bench : Bench
  pub given : Setup
  pub reading : Reading

abbrev pub site : {F : Type 0} → (F → Option FileTable) → (F → ℕ) → (F → ℕ) → Bench
    → Option FileTable
    → Indexed → Sheet → Site F
site library faults loads bench known indexed sheet =
    record {
      library = library;
      faults = faults;
      loads = loads;
      bench = bench;
      given = record { library = known; res = indexed.res; sheet = sheet };
      reading =
          indexed.reading;
    }

abbrev pub keys_of : Option SeatView → List FontKey
keys_of None = []
keys_of (Some s) = looks (own_calls s)

-- the keys that it asked for since it was so
abbrev pub keys_since : {F : Type 0} → (before now : Worker F) → List FontKey
keys_since before now = drop (length (keys_of before.seat)) (keys_of now.seat)

abbrev pub indexed_of : Setup → Reading → Indexed
indexed_of g reading = record { res = g.res; reading = reading }

-- what came of a page is the page's own
abbrev pub IsOutcomeOf : Setup → Reading → ℕ → Result Drawn PageStop → Type 0
IsOutcomeOf g reading i (Ok drawn) = IsValueOf g reading i (Ok (value_of_drawn drawn))
IsOutcomeOf g reading i (Err (draw.Fault fault at)) =
    IsValueOf g reading i (fault_at (value_of_fault fault) at)
IsOutcomeOf g reading i (Err draw.SourceFault) = Unit {0}
IsOutcomeOf g reading i (Err draw.NoMemory) = Unit {0}

module _ {F : Type 0} (s : Site F) where
  -- what holds of a worker throughout
  pub record IsSteady (start now : Worker F) : Type 0 where
    pub fits : BenchFits (s.library now.source) s.bench now.seat
    pub library : library_at now.seat ≡ library_at start.seat
    pub units : units_at now.seat ≡ units_at start.seat
    pub faults : s.faults start.source ≤ s.faults now.source

  abbrev pub Trails : Type 0 → Worker F → Worker F → Type 0
  Trails W start now =
      TrailGrew W (asked_at start.seat) (asked_at now.seat) (trail_of s.loads start)
      (trail_of s.loads now)

  -- all look-ups of the pages that the worker drew since the start
  abbrev pub AllLooked : Worker F → Worker F → Type 0
  AllLooked start now = WholeLooks (finding s.given s.reading) (indexed_of s.given s.reading)
      s.given.sheet (pages_since start now) (keys_since start now)

  -- or the last of them was broken off
  abbrev pub LastBroke : (ℕ → Type 0) → Worker F → Worker F → Type 0
  LastBroke MayBreak start now = BrokenLooks MayBreak (finding s.given s.reading)
      (indexed_of s.given s.reading) s.given.sheet (pages_since start now) (keys_since start now)

  -- the worker has no result, and each page that it drew had a bitmap
  pub record BetweenRounds (start now : Worker F) : Type 0 where
    pub kept : IsSteady start now
    pub none : now.results.items ≡ []
    pub counter : now.counter ≡ None
    pub trail : Trails (Unit {0}) start now
    pub looked : AllLooked start now

  -- a page may have been broken off for this: the worker's source failed, or memory was wanting
  abbrev pub WasCut : (MayWant : Type 0) → Worker F → Worker F → Type 0
  WasCut MayWant start now = Rose (s.faults start.source) (s.faults now.source) ⊎ MayWant

  -- what is so of a worker when the rounds are over: it gave up no claim, and each page that it
  -- drew came to its end; or its last page was broken off, which may have been
  pub record AfterRounds (MayBreak : ℕ → Type 0) (MayWant : Type 0) (start now : Worker F)
      : Type 0 where
    pub kept : IsSteady start now
    pub none : now.results.items ≡ []
    pub counter : now.counter ≡ None
    pub room : room_at start.loads start.seat
        ≤ room_at now.loads now.seat + pages_begun s.reading * MAX_FLAT_COMMANDS
    pub pages : now.pages.items ≡ start.pages.items ++ pages_since start now
    pub keys : keys_of now.seat ≡ keys_of start.seat ++ keys_since start now
    pub trail : Trails ⊥ start now
    pub looked : (Trails (Unit {0}) start now × AllLooked start now)
        ⊎ LastBroke (λ page. MayBreak page × WasCut MayWant start now) start now

-- a worker that may begin: it has a seat, nothing is kept, and there is room for the look-ups of
-- all pages
pub record MayBegin {F : Type 0} (s : Site F) (w : Worker F) : Type 0 where
  pub fits : BenchFits (s.library w.source) s.bench w.seat
  pub library : library_at w.seat ≡ s.given.library
  pub units : units_at w.seat ≡ document_units s.given.res s.reading
  pub none : w.results.items ≡ []
  pub counter : w.counter ≡ None
  pub room : pages_begun s.reading * MAX_FLAT_COMMANDS ≤ room_at w.loads w.seat

-- A bench with a new cache, and the first seat of that, for a document that is indexed: it keeps no
-- more than these limits, and is for fonts of this library where it is known.
pub record IsNewBench (limits : Limits) (known : Option FileTable) (indexed : Indexed)
    (bench : Bench) (first : SeatView) : Type 0 where
  pub units : document_units indexed.res indexed.reading ≡ Some bench.units
  pub sound : AreUnits bench.units
  pub lock : first.lock ≡ bench.cache
  pub opening : first.view
      ≡ opening_view
      (record {
        capacity = limits.capacity;
        budget = limits.budget;
        units = bench.units;
        library = known;
      })

-- ---- a result that is written

-- the black pixels of a page, where they are counted
abbrev pub black_of : (counted : Bool) → DrawnValue → ℕ
black_of counted drawn = cond counted (black_in drawn) 0

abbrev pub WroteOutcome : (counted : Bool) (old new : Option (List ℕ)) (OutputFails : Type 0)
    → Result Drawn PageStop → Result ℕ WriteStop → Type 0
WroteOutcome counted old new OutputFails (Ok drawn) (Ok black) =
    Appends old new (text_of (value_of_drawn drawn))
    × (black ≡ black_of counted (value_of_drawn drawn))
WroteOutcome counted old new OutputFails (Ok drawn) (Err (stop.Draw reason)) = ⊥
WroteOutcome counted old new OutputFails (Ok drawn) (Err stop.Output) =
    AppendsPrefix old new (text_of (value_of_drawn drawn)) × OutputFails
WroteOutcome counted old new OutputFails (Err reason) (Ok black) = ⊥
WroteOutcome counted old new OutputFails (Err reason) (Err (stop.Draw cause)) =
    (cause ≡ reason) × (new ≡ old)
WroteOutcome counted old new OutputFails (Err reason) (Err stop.Output) = ⊥

-- the source of the worker that drew this page, from 1, rose in its faults
pub record FailedAt {F : Type 0} (faults : F → ℕ) (page : ℕ) (start now : Worker F) : Type 0 where
  pub rose : Rose (faults start.source) (faults now.source)
  pub number : ℕ
  pub is : page ≡ number + 1
  pub drew : (before : List ℕ) × (now.pages.items ≡ before ++ number ∷ [])

-- ---- a whole run's pages

-- a worker that was not used yet; its source has the library that the run knows
pub record IsFresh {F : Type 0} (library : F → Option FileTable) (known : Option FileTable)
    (w : Worker F) : Type 0 where
  pub knows_library : IfSome known (λ l. library w.source ≡ Some l)
  pub none : w.results.items ≡ []
  pub counter : w.counter ≡ None
  pub loads : w.loads ≡ 0
  pub pages : w.pages.items ≡ []

-- The loads of a worker that began with none, by its calls: at most eight for each look that was no
-- hit. Where the library is known they are no more than the files that these look for, and where
-- each page came to its end just these.
pub record LoadsAreOf (Whole : Type 0) (g : Setup) (reading : Reading) (calls : List Call)
    (loads : ℕ) : Type 0 where
  pub few : loads ≤ MAX_LOADS * misses calls
  pub files : IfSome g.library (λ l. IfSome (document_units g.res reading) (λ u.
      LoadedFiles Whole (files_loaded l u calls) 0 loads))

-- what a worker did in a run, by the calls of its seat in the history: they answer the look-ups of
-- the pages that it drew, of which only the last may have been broken off, where it may have been;
-- each font that it handed in has its key's weight; a claim is given up at their end alone, and
-- only where that page was; no page was broken off where the run is whole; and it loaded at most
-- eight files for each look that was no hit. It has neither a seat nor a result any more, and its
-- source has the library that the run knows
pub record WorkerRan {F : Type 0} (MayBreak : ℕ → Type 0) (Whole : Type 0)
    (library : F → Option FileTable) (faults loads : F → ℕ) (g : Setup) (reading : Reading)
    (history : List Call) (number : ℕ) (before after : Worker F) : Type 0 where
  pub seat : after.seat ≡ None
  pub none : after.results.items ≡ []
  pub counter : after.counter ≡ None
  pub spare_pages : HasNoSparePages before → HasNoSparePages after
  pub knows_library : IfSome g.library (λ l. library after.source ≡ Some l)
  pub faults_rose : faults before.source ≤ faults after.source
  pub keys : List FontKey
  pub looked : (NoneReleased (own number history)
      × WholeLooks (finding g reading) (indexed_of g reading) g.sheet after.pages.items keys)
      ⊎ BrokenLooks MayBreak (finding g reading) (indexed_of g reading) g.sheet after.pages.items
      keys
  pub answered : SeatCalls keys (own number history)
  pub weighed : AllWeigh (IsWeightOf g.library (document_units g.res reading))
      (own number history)
  pub last : ReleasedLast (own number history)
  pub whole : Whole → NoneReleased (own number history)
  pub drawn_out : Whole → WholeLooks (finding g reading) (indexed_of g reading)
      g.sheet after.pages.items keys
  pub loaded : Loaded (MAX_LOADS * misses (own number history)) (loads before.source)
      (loads after.source) before.loads after.loads
  pub loads_are : LoadsAreOf Whole g reading (own number history) after.loads
