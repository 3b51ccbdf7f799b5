-- Workers that draw one document after another.
use Rattle.std.proofs.Common.{◌≡◌, ◌+◌, ◌*◌, ◌≤◌, ℕ, Option, Some, None, ap, refl, ◌∙◌, arith}
use Rattle.std.specs.Prelude.{◌^◌}
use Rattle.outside.specs.Library.{FileTable}
use Rattle.cache_core.specs.declared.common.Common.{Common}
use Rattle.turn_lock.specs.Seats.{SeatView}
use Rattle.page_index.specs.Document.{pages_begun}
use Rattle.page_workers.specs.declared.bench.Bench.{Bench}
use Rattle.page_workers.specs.declared.worker.Worker.{Worker}
use Rattle.page_workers.specs.Laws.{IsBenchOf}
use Rattle.page_workers.specs.Rounds.{MayDraw}
use Rattle.page_workers.specs.Seating.{IsUnused, MayLeave, WasSeated}
use Rattle.page_workers.specs.Seats.{BenchFits, library_at, room_at}
use Rattle.page_workers.proofs.Rounds.{seated_may_draw}
use Rattle.dvi_run.specs.Jobs.{WorkerDrewJob, number_at}
use Rattle.dvi_run.specs.Rounds.{Site}
use Rattle.overlap_tests.specs.Jobs.{DrawsOn}

pub fewer_pages : {F : Type 0} (library : F → Option FileTable) (bench : Bench) (count fewer : ℕ) (w : Worker F) → fewer ≤ count → MayDraw library bench count w → MayDraw library bench fewer w
fewer_pages library bench count fewer w le may =
    let room : count * 2 ^ 24 ≤ room_at w.loads w.seat = may.room in
    let less : fewer * 2 ^ 24 ≤ room_at w.loads w.seat = omega (arith, le, room) in
    record { fits = may.fits; no_result = may.no_result; no_counter = may.no_counter; room = less }

pub seated_draws_on : {F : Type 0} (library : F → Option FileTable) (bench : Bench) (part : Common) (n count : ℕ) (before after : Worker F) → count ≤ 32 → IsBenchOf library bench part before → part.library ≡ None → IsUnused before
    → WasSeated bench.cache part n before after → DrawsOn library bench count n after
seated_draws_on library bench part n count before after few of_bench none unused seated = record {
  draws = seated_may_draw library bench part n count before after few of_bench unused seated;
  leaves = record { seat = seated.seat; is = seated.is; lock = seated.new.lock; number = seated.new.number; idle = seated.new.idle };
  unknown = ap library_at seated.is ∙ ap (λ (p : Common). p.library) seated.new.part ∙ none;
}

may_leave : {F : Type 0} (library : F → Option FileTable) (bench : Bench) (n : ℕ) (w : Worker F) (o : Option SeatView) → w.seat ≡ o → BenchFits (library w.source) bench o → number_at o ≡ Some n → MayLeave bench.cache n w
may_leave library bench n w None is fits number = absurd fits
may_leave library bench n w (Some s) is fits number =
    let same : s.view.number ≡ n = cc number in
    record { seat = s; is = is; lock = fits.lock; number = same; idle = fits.idle }

pub draws_on_after : {F : Type 0} (s : Site F) (MayBreak : ℕ → Type 0) (MayWant : Type 0) (count left n : ℕ) (before after : Worker F) → pages_begun s.reading + left ≤ count → DrawsOn s.library s.bench count n before
    → WorkerDrewJob s MayBreak MayWant before after → DrawsOn s.library s.bench left n after
draws_on_after s MayBreak MayWant count left n before after enough on drew =
    let had : count * 2 ^ 24 ≤ room_at before.loads before.seat = on.draws.room in
    let used : room_at before.loads before.seat ≤ room_at after.loads after.seat + pages_begun s.reading * 2 ^ 24 = drew.room in
    let room : left * 2 ^ 24 ≤ room_at after.loads after.seat = omega (arith, had, used, enough) in
    let number : number_at after.seat ≡ Some n = drew.number ∙ ap number_at on.leaves.is ∙ ap Some on.leaves.number in
    record {
      draws = record { fits = drew.fits; no_result = drew.none; no_counter = drew.counter; room = room };
      leaves = may_leave s.library s.bench n after after.seat refl drew.fits number;
      unknown = drew.library ∙ on.unknown;
    }
