-- The workers that the program makes.
use Rattle.std.specs.Prelude.{◌≡◌, ◌<◌, ℕ, List, length, slice_index_or}
use Rattle.page_workers.specs.declared.worker.Worker.{Worker}
use Rattle.page_workers.specs.Seating.{IsUnused}
use Rattle.page_workers.specs.SparePages.{HasNoSparePages}
use Rattle.real_streams.specs.declared.fonts.OpenedFonts.{OpenedFonts}

-- a worker as it was made, over the files that this opens
pub record IsNewWorker {O : Type 0} (wanted : O) (w : Worker (OpenedFonts O)) : Type 0 where
  pub unused : IsUnused w
  pub spare_pages : HasNoSparePages w
  pub opener : w.source.opener ≡ wanted
  pub faults : w.source.faults ≡ 0
  pub loads : w.source.loads ≡ 0

-- 32 of them
pub record AreNewWorkers {O : Type 0} (opener : O) (workers : List (Worker (OpenedFonts O)))
    : Type 0 where
  pub count : length workers ≡ 32
  pub each : (k : ℕ) (d : Worker (OpenedFonts O)) → k < 32
      → IsNewWorker opener (slice_index_or workers k d)
