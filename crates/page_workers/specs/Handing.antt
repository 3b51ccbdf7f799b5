-- Results that workers hand on while their round is drawn, and that are taken in the order of their
-- pages.
use Rattle.std.specs.Prelude.{◌≡◌, ℕ, suc, ◌+◌, ◌<◌, ◌≤◌, List, [], ◌∷◌, ◌++◌, length, Contains, slice_index_or, Option, None, Some}
use Rattle.std.specs.Vec.{vec_len, vec_capacity}
use Rattle.outside.specs.Library.{FileTable}
use Rattle.page_index.specs.Pages.{Indexed}
use Rattle.page_draw.specs.declared.sheet.Sheet.{Sheet}
use Rattle.rtrb.specs.Ring.{sent, received, known_free, known_items, IsPair, SameProducer, SameConsumer, ConsumerLooked}
use Rattle.page_workers.specs.declared.bench.Bench.{Bench}
use Rattle.page_workers.specs.declared.rings.Inlet.{Inlet}
use Rattle.page_workers.specs.declared.rings.Outlet.{Outlet}
use Rattle.page_workers.specs.declared.worker.PageResult.{PageResult}
use Rattle.page_workers.specs.declared.worker.Worker.{Worker}
use Rattle.page_workers.specs.Rounds.{DrewRound}

-- ---- results in order

-- the results of the pages from a number on
abbrev pub AreFrom : ℕ → List PageResult → Type 0
AreFrom page [] = Unit {0}
AreFrom page (r ∷ results) = (r.page ≡ page) × AreFrom (suc page) results

-- a worker but for its results, its counter and its spare pages
pub record SameBut {F : Type 0} (before after : Worker F) : Type 0 where
  pub source : after.source ≡ before.source
  pub seat : after.seat ≡ before.seat
  pub loads : after.loads ≡ before.loads
  pub pages : after.pages.items ≡ before.pages.items

-- and it has no result any more
pub record WasCleared {F : Type 0} (before after : Worker F) : Type 0 where
  pub same : SameBut before after
  pub none : after.results.items ≡ []

-- the results of n pages from `first` on, which some workers had, were taken out of them and are
-- these, in the order of their pages
pub record TakenOut {F : Type 0} (first count : ℕ) (before after : List (Worker F))
    (results : List PageResult) : Type 0 where
  pub cleared : (k : ℕ) (d : Worker F) → k < length before
      → WasCleared (slice_index_or before k d) (slice_index_or after k d)
  pub long : length results ≡ count
  pub are : AreFrom first results
  pub owned : (r : PageResult) → Contains results r → (k : ℕ) × (k < length before)
      × ((d : Worker F) → Contains (slice_index_or before k d).results.items r)
  pub all : (k : ℕ) (d : Worker F) (r : PageResult) → k < length before
      → Contains (slice_index_or before k d).results.items r → Contains results r

module _ {F : Type 0} (library : F → Option FileTable) (faults loads : F → ℕ) where
  -- some workers drew a round, and its results were taken out of them
  pub record HandedRound (bench : Bench) (indexed : Indexed) (sheet : Sheet) (first count : ℕ)
      (before after : List (Worker F)) (results : List PageResult) : Type 0 where
    pub drawn : List (Worker F)
    pub long : length drawn ≡ length before
    pub round : DrewRound library faults loads bench indexed sheet first count before drawn
    pub taken : TakenOut first round.pages drawn after results

-- ---- a taker

-- it took these results, one after another
abbrev pub TookEach : {W O : Type 0} → (W → O → PageResult → W → O → Type 0) → List PageResult
    → W → O → W → O → Type 0
TookEach Takes [] w o v p = (v ≡ w) × (p ≡ o)
TookEach {W} {O} Takes (r ∷ results) w o v p =
    (u : W) × (q : O) × Takes w o r u q × TookEach Takes results u q v p

-- ---- rings

-- the first of these results is that of this page
abbrev pub HasAtHead : ℕ → List PageResult → Type 0
HasAtHead page results = (r : PageResult) × (rest : List PageResult) × (results ≡ r ∷ rest)
    × (r.page ≡ page)

-- more may be known of what is in the ring
abbrev pub Looked : Inlet → Inlet → Type 0
Looked before after = ConsumerLooked before.results after.results

-- the first result that was known was taken out
pub record TookHead (r : PageResult) (before after : Inlet) : Type 0 where
  pub ring : SameConsumer before.results after.results
  pub received : received after.results ≡ received before.results ++ r ∷ []
  pub known : known_items before.results ≡ r ∷ known_items after.results

-- of the pages from `first` on n results were taken out of the rings, in the order of their pages,
-- and handed to a taker
pub record TookSome {W O : Type 0} (Takes : W → O → PageResult → W → O → Type 0) (first taken : ℕ)
    (before after : List Inlet) (results : List PageResult) (w : W) (o : O) (v : W) (p : O)
    : Type 0 where
  pub long : length results ≡ taken
  pub are : AreFrom first results
  pub took : TookEach Takes results w o v p
  pub rings : (k : ℕ) (d : Inlet) → k < length before
      → SameConsumer (slice_index_or before k d).results (slice_index_or after k d).results
  pub owned : (r : PageResult) → Contains results r → (k : ℕ) × (k < length before)
      × ((d : Inlet) → Contains (received (slice_index_or after k d).results) r)
  pub all : (k : ℕ) (d : Inlet) (r : PageResult) → k < length before
      → Contains (received (slice_index_or after k d).results) r → Contains results r

-- ---- a worker with an outlet

-- a worker but for its outlet
abbrev pub WithOutlet : {F : Type 0} → Worker F → Worker F → Type 0
WithOutlet before after = (outlet : Option Outlet) × (after ≡ record before { outlet = outlet })

-- the outlet sends on as before
abbrev pub SendsOn : Option Outlet → Option Outlet → Type 0
SendsOn None after = after ≡ None
SendsOn (Some o) after = (p : Outlet) × (after ≡ Some p) × (p.results ≡ o.results)

-- the worker has an outlet with room for n results, and there is room to note a result at hand
pub record HasOutlet {F : Type 0} (n : ℕ) (w : Worker F) : Type 0 where
  pub outlet : Outlet
  pub is : w.outlet ≡ Some outlet
  pub room : n ≤ known_free outlet.results
  pub none : w.results.items ≡ []
  pub space : vec_len w.results + 1 ≤ vec_capacity w.results

-- the worker and the inlet have the two ends of one ring
pub record AreLinked {F : Type 0} (w : Worker F) (inlet : Inlet) : Type 0 where
  pub outlet : Outlet
  pub is : w.outlet ≡ Some outlet
  pub pair : IsPair outlet.results inlet.results

-- which is new, and has room for n results
pub record AreNewlyLinked {F : Type 0} (n : ℕ) (w : Worker F) (inlet : Inlet) : Type 0 where
  pub outlet : Outlet
  pub is : w.outlet ≡ Some outlet
  pub pair : IsPair outlet.results inlet.results
  pub unsent : sent outlet.results ≡ []
  pub unreceived : received inlet.results ≡ []
  pub room : known_free outlet.results ≡ n

-- the worker had one result, and handed it on
pub record HandedOn {F : Type 0} (before after : Worker F) : Type 0 where
  pub source : after.source ≡ before.source
  pub seat : after.seat ≡ before.seat
  pub loads : after.loads ≡ before.loads
  pub pages : after.pages ≡ before.pages
  pub counter : after.counter ≡ before.counter
  pub none : after.results.items ≡ []
  pub shorter : vec_len after.results + 1 ≡ vec_len before.results
  pub space : vec_capacity after.results ≡ vec_capacity before.results
  pub sends : (o : Outlet) (r : PageResult) → before.outlet ≡ Some o
      → before.results.items ≡ r ∷ [] → (p : Outlet) × (after.outlet ≡ Some p)
      × SameProducer o.results p.results × (sent p.results ≡ sent o.results ++ r ∷ [])
      × (known_free o.results ≡ known_free p.results + 1)
