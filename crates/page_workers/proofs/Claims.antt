-- A worker holds no claim after its part of a round.
use Rattle.std.proofs.Common.{ℕ, List, [], ◌∷◌, sym, subst}
use Rattle.std.specs.Prelude.{Option, None, Some}
use Rattle.outside.specs.Library.{FileTable}
use Rattle.turn_lock.specs.Seats.{SeatView}
use Rattle.page_index.specs.Pages.{Indexed}
use Rattle.page_draw.specs.declared.sheet.Sheet.{Sheet}
use Rattle.page_workers.specs.declared.bench.Bench.{Bench}
use Rattle.page_workers.specs.declared.worker.PageResult.{PageResult}
use Rattle.page_workers.specs.declared.worker.Worker.{Worker}
use Rattle.page_workers.specs.Seats.{BenchFits, HoldsNoClaim}
use Rattle.page_workers.specs.Rounds.{Drew, DrewNothing}

pub fits_free : (known : Option FileTable) (bench : Bench) (seat : Option SeatView) → BenchFits known bench seat → HoldsNoClaim seat
fits_free known bench None fits = absurd fits
fits_free known bench (Some s) fits = fits.free

module _ {F : Type 0} (library : F → Option FileTable) (faults loads : F → ℕ) (bench : Bench) where
  pub rested_free : (a b : Worker F) → BenchFits (library a.source) bench a.seat → DrewNothing a b → HoldsNoClaim b.seat
  rested_free a b fits rest = subst HoldsNoClaim (sym rest.seat) (fits_free (library a.source) bench a.seat fits)

  pub drew_free : (indexed : Indexed) (sheet : Sheet) (rs : List PageResult) (a b : Worker F) → BenchFits (library a.source) bench a.seat → Drew library faults loads bench indexed sheet rs a b → HoldsNoClaim b.seat
  drew_free indexed sheet [] a b fits d = rested_free a b fits d
  drew_free indexed sheet (r ∷ rs) a b fits d = drew_free indexed sheet rs d.0 b d.1.fits d.2
