-- What a worker drew that handed its results on: as if it had kept them.
use Rattle.std.specs.Prelude.{◌≡◌, ℕ, ◌+◌, ◌<◌, ◌≤◌, List, [], length, slice_index_or, Bool, false, Option, None, Some}
use Rattle.page_index.specs.Document.{pages_begun}
use Rattle.atomic_table.specs.Seated.{TableId}
use Rattle.outside.specs.Library.{FileTable}
use Rattle.page_index.specs.Pages.{Indexed}
use Rattle.page_draw.specs.declared.sheet.Sheet.{Sheet}
use Rattle.rtrb.specs.Ring.{sent, SameProducer}
use Rattle.page_workers.specs.declared.bench.Bench.{Bench}
use Rattle.page_workers.specs.declared.rings.Outlet.{Outlet}
use Rattle.page_workers.specs.declared.worker.Worker.{Worker}
use Rattle.page_workers.specs.Claims.{DrewNext, HasRoom, MayTakePart, TookPart}
use Rattle.page_workers.specs.Handing.{HasOutlet}

-- a worker with the results and the spare pages of another, and without an outlet. Whether threads
-- can be made says nothing of what it drew
abbrev pub as_kept : {F : Type 0} → Worker F → Worker F → Worker F
as_kept w kept =
    record w {
      results = kept.results;
      spare_pages = kept.spare_pages;
      outlet = None;
      no_threads = false;
    }

-- some workers may draw their parts of a round and hand them on
pub record MayHandParts {F : Type 0} (library : F → Option FileTable) (bench : Bench)
    (indexed : Indexed) (id : TableId) (first count : ℕ) (workers : List (Worker F))
    : Type 0 where
  pub inside : first + count ≤ pages_begun indexed.reading
  pub ready : (k : ℕ) (d : Worker F) → k < length workers
      → MayTakePart library bench id count (slice_index_or workers k d)
  pub outlet : (k : ℕ) (d : Worker F) → k < length workers
      → HasOutlet count (slice_index_or workers k d)
  pub unsent : (k : ℕ) (d : Worker F) (o : Outlet) → k < length workers
      → (slice_index_or workers k d).outlet ≡ Some o → sent o.results ≡ []

module _ {F : Type 0} (library : F → Option FileTable) (faults loads : F → ℕ) where
  -- the worker drew the page with this number, from 0, and handed its result on
  abbrev pub HandedNext : Bench → Indexed → Sheet → (page : ℕ) → (has_bitmap : Bool)
      → (before after : Worker F) → Type 0
  HandedNext bench indexed sheet page has_bitmap before after =
      (kept : Worker F) (o : Outlet) → before.outlet ≡ Some o
      → kept.results.items ≡ sent o.results → HasRoom 1 (as_kept before kept)
      → (p : Outlet) × (after.outlet ≡ Some p) × SameProducer o.results p.results
      × (more : Worker F) × (more.results.items ≡ sent p.results)
      × DrewNext library faults loads bench indexed sheet page has_bitmap
      (as_kept before kept) (as_kept after more)

  -- the worker drew the pages that it claimed, as long as each had a bitmap, and handed each on
  pub record HandedPart (bench : Bench) (indexed : Indexed) (sheet : Sheet) (id : TableId)
      (first count : ℕ) (before after : Worker F) : Type 0 where
    pub old : Outlet
    pub was : before.outlet ≡ Some old
    pub new : Outlet
    pub is : after.outlet ≡ Some new
    pub ring : SameProducer old.results new.results
    pub none : after.results.items ≡ []
    pub kept : Worker F
    pub are : kept.results.items ≡ sent new.results
    pub part : TookPart library faults loads bench indexed sheet id first count
        (as_kept before before) (as_kept after kept)

  -- all workers did so
  abbrev pub HandedParts : Bench → Indexed → Sheet → TableId → (first count : ℕ)
      → (before after : List (Worker F)) → Type 0
  HandedParts bench indexed sheet id first count before after =
      (k : ℕ) (d : Worker F) → k < length before
      → HandedPart bench indexed sheet id first count
      (slice_index_or before k d) (slice_index_or after k d)
