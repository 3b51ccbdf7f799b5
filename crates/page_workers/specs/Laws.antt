-- What holds of a worker between its seat and the end of a round.
use Rattle.std.specs.Prelude.{◌≡◌, ℕ, ◌≤◌, List, Option, Some, IfSome}
use Rattle.outside.specs.Library.{FileTable}
use Rattle.cache_core.specs.declared.common.Common.{Common}
use Rattle.pixel_round.specs.Preamble.{AreUnits}
use Rattle.page_index.specs.Pages.{Indexed}
use Rattle.page_draw.specs.declared.sheet.Sheet.{Sheet}
use Rattle.page_workers.specs.declared.bench.Bench.{Bench}
use Rattle.page_workers.specs.declared.worker.PageResult.{PageResult}
use Rattle.page_workers.specs.declared.worker.Worker.{Worker}
use Rattle.page_workers.specs.Rounds.{MayDraw, Drew}
use Rattle.page_workers.specs.Seating.{IsUnused, MayLeave, WasSeated}

-- the bench is of this common part, whose library the worker's source has where it is known
pub record IsBenchOf {F : Type 0} (library : F → Option FileTable) (bench : Bench) (part : Common)
    (w : Worker F) : Type 0 where
  pub units : bench.units ≡ part.units
  pub sound : AreUnits bench.units
  pub knows_library : IfSome part.library (λ l. library w.source ≡ Some l)

-- a worker that drew nothing yet may draw a round as soon as it has a seat
abbrev pub SeatedMayDraw : {F : Type 0} → (F → Option FileTable) → Type 0
SeatedMayDraw {F} library = (bench : Bench) (part : Common) (n count : ℕ) (before after : Worker F)
    → count ≤ 32 → IsBenchOf library bench part before → IsUnused before
    → WasSeated bench.cache part n before after → MayDraw library bench count after

-- and its seat may be taken in after a round
abbrev pub DrawnMayLeave : {F : Type 0} → (F → Option FileTable) → (F → ℕ) → (F → ℕ) → Type 0
DrawnMayLeave {F} library faults loads = (bench : Bench) (part : Common) (indexed : Indexed)
    (sheet : Sheet) (n : ℕ) (results : List PageResult) (before start after : Worker F)
    → WasSeated bench.cache part n before start
    → Drew library faults loads bench indexed sheet results start after
    → MayLeave bench.cache n after
