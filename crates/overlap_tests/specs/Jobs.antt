-- Workers between the jobs that they draw over one bench.
use Rattle.std.specs.Prelude.{◌≡◌, ℕ, Option, None}
use Rattle.outside.specs.Library.{FileTable}
use Rattle.page_workers.specs.declared.bench.Bench.{Bench}
use Rattle.page_workers.specs.declared.worker.Worker.{Worker}
use Rattle.page_workers.specs.Rounds.{MayDraw}
use Rattle.page_workers.specs.Seating.{MayLeave}
use Rattle.page_workers.specs.Seats.{library_at}

-- the worker may draw so many pages more, and its seat, of this number, may be taken in; the common
-- part knows no library
pub record DrawsOn {F : Type 0} (library : F → Option FileTable) (bench : Bench) (count n : ℕ)
    (w : Worker F) : Type 0 where
  pub draws : MayDraw library bench count w
  pub leaves : MayLeave bench.cache n w
  pub unknown : library_at w.seat ≡ None
