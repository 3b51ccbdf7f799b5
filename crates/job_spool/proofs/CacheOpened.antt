-- A new cache, or none.
use Rattle.std.proofs.Common.{◌≡◌, ℕ, ◌+◌, List, [], Option, Some, None, Result, Ok, sym, subst}
use Rattle.std.specs.Prelude.{IfOk, IfSome}
use Rattle.outside.specs.Library.{FileTable}
use Rattle.atomic_table.specs.Seated.{TableId}
use Rattle.cache_core.specs.declared.limits.Limits.{Limits}
use Rattle.cache_core.specs.Histories.{own}
use Rattle.cache_core.specs.Views.{calls_of}
use Rattle.cache_core.specs.declared.entry.Entry.{Entry}
use Rattle.font_decode.specs.Desks.{misses}
use Rattle.pixel_round.specs.declared.units.Units.{Units}
use Rattle.turn_lock.specs.Seats.{SeatView}
use Rattle.turn_lock.specs.Views.{opening_view}
use Rattle.page_workers.specs.declared.bench.Bench.{Bench}
use Rattle.page_workers.specs.declared.worker.Worker.{Worker}
use Rattle.dvi_run.specs.Outside.{Sources}
use Rattle.job_spool.specs.Workers.{IsResting}

-- the bench and the first seat of a new cache
pub record IsOpened (limits : Limits) (known : Option FileTable) (units : Units) (bench : Bench) (seat : SeatView) : Type 0 where
  pub units_are : bench.units ≡ units
  pub lock : seat.lock ≡ bench.cache
  pub view : seat.view ≡ opening_view (record { capacity = limits.capacity; budget = limits.budget; units = units; library = known })

pub opened_by : (known : Option FileTable) (limits : Limits) (units : Units) {E : Type 0} (opened : Result (TableId × SeatView) E) (made : Option (Bench × SeatView)) → IfOk opened (λ m. m.1.lock ≡ m.0)
    → IfOk opened (λ m. m.1.view ≡ opening_view (record { capacity = limits.capacity; budget = limits.budget; units = units; library = known })) → IfSome made (λ b. b.0.units ≡ units) → IfSome made (λ b. opened ≡ Ok (b.0.cache, b.1))
    → IfSome made (λ b. IsOpened limits known units b.0 b.1)
opened_by known limits units opened None lock seat same is = tt
opened_by known limits units opened (Some b) lock seat same is = record {
  units_are = same;
  lock = subst (λ r. IfOk r (λ m. m.1.lock ≡ m.0)) is lock;
  view = subst (λ r. IfOk r (λ m. m.1.view ≡ opening_view (record { capacity = limits.capacity; budget = limits.budget; units = units; library = known }))) is seat;
}

-- ---- no cache

pub still_resting : {F : Type 0} (sources : Sources F) (known : Option FileTable) (k : ℕ) (w : Worker F) (items : List Entry) → items ≡ [] → IsResting sources known 0 w w → IsResting sources known (misses (own (k + 1) (calls_of items))) w w
still_resting sources known k w items empty rested = subst (λ (l : List Entry). IsResting sources known (misses (own (k + 1) (calls_of l))) w w) (sym empty) rested
