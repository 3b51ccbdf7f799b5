-- New workers are ready for a run, in which the font files are those that their opener tells.
use Rattle.std.proofs.Common.{◌≡◌, ◌∙◌, ◌<◌, ℕ, List, [], ◌∷◌, Option, Some, None, IfSome, get_or, sym, ap, arith}
use Rattle.outside.specs.Library.{FileTable}
use Rattle.page_workers.specs.declared.worker.Worker.{Worker}
use Rattle.dvi_run.specs.Together.{IsReadyWorker}
use Rattle.real_streams.specs.declared.fonts.OpenedFonts.{OpenedFonts}
use Rattle.real_outside.specs.Workers.{AreNewWorkers, IsNewWorker}

-- what the first worker knows of the font files
abbrev pub first_known : {F : Type 0} → (F → Option FileTable) → List (Worker F) → Option FileTable
first_known library [] = None
first_known library (w ∷ ws) = library w.source

knows : (known found : Option FileTable) → found ≡ known → IfSome known (λ files. found ≡ Some files)
knows None found is = tt
knows (Some files) found is = is

module _ {O : Type 0} (known : O → Option FileTable) (opener : O) where
  -- new workers know what their opener tells
  pub known_by_new : (ws : List (Worker (OpenedFonts O))) → AreNewWorkers opener ws → first_known (λ s. known s.opener) ws ≡ known opener
  known_by_new [] new = absurd (let e : 0 ≡ 32 = new.count in cc)
  known_by_new (w ∷ ws) new = ap known (new.each 0 w (omega arith)).opener

  ready_by : (files : Option FileTable) (w : Worker (OpenedFonts O)) → files ≡ known opener → IsNewWorker opener w → IsReadyWorker (λ s. known s.opener) files w
  ready_by files w is new = record {
    fresh = record {
      knows_library = knows files (known w.source.opener) (ap known new.opener ∙ sym is);
      none = new.unused.none;
      counter = new.unused.counter;
      loads = new.unused.loads;
      pages = new.unused.pages;
    };
    seat = new.unused.seat;
  }

  pub ready_new : (ws : List (Worker (OpenedFonts O))) → AreNewWorkers opener ws → (k : ℕ) (d : Worker (OpenedFonts O)) → k < 32
      → IsReadyWorker (λ s. known s.opener) (first_known (λ s. known s.opener) ws) (get_or ws k d)
  ready_new ws new k d lt = ready_by (first_known (λ s. known s.opener) ws) (get_or ws k d) (known_by_new ws new) (new.each k d lt)
