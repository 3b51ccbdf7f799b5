-- A worker from its seat to the end of a round.
use Rattle.std.proofs.Common.{◌≡◌, ◌*◌, ◌≤◌, ℕ, List, [], ◌∷◌, Option, Some, None, refl, sym, ap, subst, ◌∙◌, arith}
use Rattle.std.specs.Prelude.{◌^◌, IfSome}
use Rattle.outside.specs.Library.{FileTable}
use Rattle.cache_core.specs.declared.common.Common.{Common}
use Rattle.cache_core.specs.Histories.{open_claim}
use Rattle.turn_lock.specs.Seats.{SeatView}
use Rattle.page_index.specs.Pages.{Indexed}
use Rattle.page_draw.specs.declared.sheet.Sheet.{Sheet}
use Rattle.font_decode.specs.Desks.{Trail, TrailGrew}
use Rattle.page_draw.specs.Drawn.{IsWhole}
use Rattle.page_workers.specs.declared.bench.Bench.{Bench}
use Rattle.page_workers.specs.declared.worker.PageResult.{PageResult}
use Rattle.page_workers.specs.declared.worker.Worker.{Worker}
use Rattle.page_workers.specs.Seats.{SeatFits, BenchFits, own_calls, asked_at, trail_at, room_at}
use Rattle.page_workers.specs.Seating.{IsUnused, WasSeated, MayLeave}
use Rattle.page_workers.specs.Rounds.{Drew, DrewPage, MayDraw}
use Rattle.page_workers.specs.Laws.{IsBenchOf, SeatedMayDraw, DrawnMayLeave}

module _ {F : Type 0} (library : F → Option FileTable) (bench : Bench) (part : Common) (n count : ℕ) (before after : Worker F) (few : count ≤ 32) (of_bench : IsBenchOf library bench part before) (unused : IsUnused before)
    (seated : WasSeated bench.cache part n before after) where
  knows_library : (common : Option FileTable) → common ≡ part.library → IfSome common (λ l. library after.source ≡ Some l)
  knows_library common e = subst (λ (o : Option FileTable). IfSome o (λ l. library after.source ≡ Some l)) (sym e)
      (subst (λ (x : F). IfSome part.library (λ l. library x ≡ Some l)) (sym seated.same.source) of_bench.knows_library)

  is_at : SeatFits (library after.source) bench seated.seat
  is_at = record {
    lock = seated.new.lock;
    idle = seated.new.idle;
    free = ap open_claim seated.new.no_call;
    units = of_bench.units ∙ sym (ap (λ (p : Common). p.units) seated.new.part);
    sound = of_bench.sound;
    knows_library = knows_library seated.seat.view.part.library (ap (λ (p : Common). p.library) seated.new.part);
  }

  room : count * 2 ^ 24 ≤ room_at after.loads after.seat
  room =
      let drawn = seated.new.drawn in
      let loads : after.loads ≡ 0 = seated.same.loads ∙ unused.loads in
      let same : room_at after.loads after.seat ≡ room_at 0 (Some seated.seat) = ap (λ (m : ℕ). room_at m after.seat) loads ∙ ap (room_at 0) seated.is in
      omega (arith, same, drawn)

  may_draw : MayDraw library bench count after
  may_draw = record {
    fits = subst (λ (o : Option SeatView). BenchFits (library after.source) bench o) (sym seated.is) is_at;
    no_result = seated.same.results ∙ unused.none;
    no_counter = seated.same.counter ∙ unused.counter;
    room = room;
  }

pub seated_may_draw : {F : Type 0} (library : F → Option FileTable) → SeatedMayDraw library
seated_may_draw library bench part n count before after few of_bench unused seated = may_draw library bench part n count before after few of_bench unused seated

-- ---- after a round

module _ {F : Type 0} (library : F → Option FileTable) (faults loads : F → ℕ) (bench : Bench) (indexed : Indexed) (sheet : Sheet) (n : ℕ) where
  module _ (r : PageResult) (before after : Worker F) (page : DrewPage library faults loads bench indexed sheet r before after) (may : MayLeave bench.cache n before) where
    module _ (t : SeatView) (is : after.seat ≡ Some t) where
      trail : TrailGrew (IsWhole r.outcome) (asked_at (Some may.seat)) (asked_at (Some t)) (trail_at (loads before.source) before.loads (Some may.seat)) (trail_at (loads after.source) after.loads (Some t))
      trail =
          subst (λ (o : Option SeatView). TrailGrew (IsWhole r.outcome) (asked_at (Some may.seat)) (asked_at o) (trail_at (loads before.source) before.loads (Some may.seat)) (trail_at (loads after.source) after.loads o)) is
          (subst (λ (o : Option SeatView). TrailGrew (IsWhole r.outcome) (asked_at o) (asked_at after.seat) (trail_at (loads before.source) before.loads o) (trail_at (loads after.source) after.loads after.seat)) may.is page.trail)

      number : t.view.number ≡ n
      number =
          let known : trail.0 ≡ record { seat = t.view.number; part = t.view.part; calls = own_calls t; loads = loads after.source; counted = after.loads } = cc trail.1 in
          sym (ap (λ (x : Trail). x.seat) known) ∙ trail.2.answers.seat ∙ may.number

    at_seat : (o : Option SeatView) → after.seat ≡ o → BenchFits (library after.source) bench o → MayLeave bench.cache n after
    at_seat None is fits = absurd fits
    at_seat (Some t) is fits = record { seat = t; is = is; lock = fits.lock; number = number t is; idle = fits.idle }

  leaves : (results : List PageResult) (before after : Worker F) → Drew library faults loads bench indexed sheet results before after → MayLeave bench.cache n before → MayLeave bench.cache n after
  leaves [] before after rested may = record { seat = may.seat; is = rested.seat ∙ may.is; lock = may.lock; number = may.number; idle = may.idle }
  leaves (r ∷ results) before after drew may = leaves results drew.0 after drew.2 (at_seat r before drew.0 drew.1 may drew.0.seat refl drew.1.fits)

pub drawn_may_leave : {F : Type 0} (library : F → Option FileTable) (faults loads : F → ℕ) → DrawnMayLeave library faults loads
drawn_may_leave library faults loads bench part indexed sheet n results before start after seated drew =
    leaves library faults loads bench indexed sheet n results start after drew
    (record { seat = seated.seat; is = seated.is; lock = seated.new.lock; number = seated.new.number; idle = seated.new.idle })
