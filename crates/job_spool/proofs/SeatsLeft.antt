-- A worker at a cache: how it is seated there, and how it is left.
use Rattle.std.proofs.Common.{◌≡◌, ℕ, ◌+◌, ◌*◌, ◌≤◌, List, [], Option, Some, sym, ap, subst, ◌∙◌, arith}
use Rattle.std.specs.Prelude.{◌^◌, IfSome}
use Rattle.outside.specs.Library.{FileTable}
use Rattle.cache_core.specs.declared.calls.Call.{Call}
use Rattle.cache_core.specs.declared.common.Common.{Common}
use Rattle.cache_core.specs.Histories.{open_claim, own}
use Rattle.pixel_round.specs.Preamble.{AreUnits}
use Rattle.font_decode.specs.Desks.{Loaded, misses}
use Rattle.turn_lock.specs.Seats.{SeatView}
use Rattle.page_workers.specs.Seating.{HasLeft, WasSeated}
use Rattle.page_workers.specs.Seats.{BenchFits, SeatFits, library_at, room_at}
use Rattle.page_workers.specs.SparePages.{SameButSparePages}
use Rattle.page_workers.specs.declared.bench.Bench.{Bench}
use Rattle.page_workers.specs.declared.worker.Worker.{Worker}
use Rattle.dvi_run.specs.Jobs.{calls_at, number_at}
use Rattle.dvi_run.specs.Outside.{Sources}
use Rattle.job_spool.specs.Workers.{IsResting, IsSeated}
use Rattle.job_spool.proofs.SeatsDrawn.{loaded_more}

module _ {F : Type 0} (sources : Sources F) (known : Option FileTable) (bench : Bench) (part : Common) (number : ℕ) (w start : Worker F) (rested : IsResting sources known 0 w w) (library : part.library ≡ known) (units : part.units ≡ bench.units)
    (sound : AreUnits bench.units) (few : w.loads ≤ 2 ^ 61) (seated : WasSeated bench.cache part number w start) where
  at_seat : {A : Type 0} (f : Option SeatView → A) → f start.seat ≡ f (Some seated.seat)
  at_seat f = ap f seated.is

  knows_library : (common : Option FileTable) → common ≡ known → IfSome common (λ l. sources.library start.source ≡ Some l)
  knows_library common e = subst (λ (o : Option FileTable). IfSome o (λ l. sources.library start.source ≡ Some l)) (sym e)
      (subst (λ (x : F). IfSome known (λ l. sources.library x ≡ Some l)) (sym seated.same.source) rested.library)

  is_at : SeatFits (sources.library start.source) bench seated.seat
  is_at = record {
    lock = seated.new.lock;
    idle = seated.new.idle;
    free = ap open_claim seated.new.no_call;
    units = sym (ap (λ (p : Common). p.units) seated.new.part ∙ units);
    sound = sound;
    knows_library = knows_library seated.seat.view.part.library (ap (λ (p : Common). p.library) seated.new.part ∙ library);
  }

  -- there is room for the pages that a cache may serve
  pub seated_now : IsSeated sources known bench number 1000000 [] start start
  seated_now = record {
    fits = subst (λ (o : Option SeatView). BenchFits (sources.library start.source) bench o) (sym seated.is) is_at;
    none = seated.same.results ∙ rested.none;
    counter = seated.same.counter ∙ rested.counter;
    library = at_seat library_at ∙ ap (λ (p : Common). p.library) seated.new.part ∙ library;
    numbered = at_seat number_at ∙ ap Some seated.new.number;
    room =
        let drawn = seated.new.drawn in
        let loads : start.loads ≡ w.loads = seated.same.loads in
        let room : room_at start.loads start.seat ≡ room_at start.loads (Some seated.seat) = at_seat (room_at start.loads) in
        omega (arith, room, drawn, loads, few);
    called = at_seat calls_at ∙ seated.new.no_call;
    faults = omega arith;
    loaded = record {
      loads = record { most = omega arith; never_falls = omega arith };
      counted = record { most = omega arith; never_falls = omega arith };
      same = λ low. omega arith;
    };
  }

  -- what is left of it when the cache is closed
  module _ (left : ℕ) (calls : List Call) (now joined after : Worker F) (drew : IsSeated sources known bench number left calls start now) (history : List Call) (leaves : HasLeft history number now joined) (but : SameButSparePages joined after) where
    pub own_calls_are : own number history ≡ calls
    own_calls_are = leaves.own ∙ sym (ap calls_at leaves.is) ∙ drew.called

    pub source_is : after.source ≡ now.source
    source_is = but.source ∙ leaves.same.source

    loads_are : after.loads ≡ now.loads
    loads_are = but.loads ∙ leaves.same.loads

    still_tells : IfSome known (λ l. sources.library after.source ≡ Some l)
    still_tells =
        let fits : SeatFits (sources.library now.source) bench leaves.seat = subst (λ (o : Option SeatView). BenchFits (sources.library now.source) bench o) leaves.is drew.fits in
        let told : leaves.seat.view.part.library ≡ known = sym (ap library_at leaves.is) ∙ drew.library in
        subst (λ (x : F). IfSome known (λ l. sources.library x ≡ Some l)) (sym source_is)
        (subst (λ (o : Option FileTable). IfSome o (λ l. sources.library now.source ≡ Some l)) told fits.knows_library)

    abbrev Loads : (calls : List Call) (was is : F) (count count_now : ℕ) → Type 0
    Loads l was is count count_now = Loaded (8 * misses l) (sources.loads was) (sources.loads is) count count_now

    pub rests : IsResting sources known (misses (own number history)) w after
    rests = record {
      seat = but.seat ∙ leaves.none;
      none = ap (λ v. v.items) but.results ∙ leaves.same.results ∙ drew.none;
      counter = but.counter ∙ leaves.same.counter ∙ drew.counter;
      library = still_tells;
      faults = subst (λ (x : F). sources.faults x ≤ sources.faults after.source) seated.same.source (subst (λ (x : F). sources.faults start.source ≤ sources.faults x) (sym source_is) drew.faults);
      loaded =
          subst (λ (l : List Call). Loads l w.source after.source w.loads after.loads) (sym own_calls_are)
          (subst (λ (x : F). Loads calls w.source x w.loads after.loads) (sym source_is)
          (subst (λ (x : F). Loads calls x now.source w.loads after.loads) seated.same.source
          (subst (λ (n : ℕ). Loads calls start.source now.source w.loads n) (sym loads_are)
          (subst (λ (n : ℕ). Loads calls start.source now.source n now.loads) seated.same.loads drew.loaded))));
    }

-- ---- between two caches

pub rests_again : {F : Type 0} (sources : Sources F) (known : Option FileTable) (missed : ℕ) (a b : Worker F) → IsResting sources known missed a b → IsResting sources known 0 b b
rests_again sources known missed a b rested = record {
  seat = rested.seat;
  none = rested.none;
  counter = rested.counter;
  library = rested.library;
  faults = omega arith;
  loaded = record {
    loads = record { most = omega arith; never_falls = omega arith };
    counted = record { most = omega arith; never_falls = omega arith };
    same = λ low. omega arith;
  };
}

pub rests_later : {F : Type 0} (sources : Sources F) (known : Option FileTable) (m n k : ℕ) (a b c : Worker F) → k ≡ m + n → IsResting sources known m a b → IsResting sources known n b c → IsResting sources known k a c
rests_later sources known m n k a b c is p q = record {
  seat = q.seat;
  none = q.none;
  counter = q.counter;
  library = q.library;
  faults = let x = p.faults in let y = q.faults in omega (arith, x, y);
  loaded = loaded_more (8 * m) (8 * n) (8 * k) _ _ _ _ _ _ (omega (arith, is)) p.loaded q.loaded;
}
