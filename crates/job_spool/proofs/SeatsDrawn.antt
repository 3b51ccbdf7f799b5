-- Workers that draw one job after another over a cache.
use Rattle.std.proofs.Common.{◌≡◌, ℕ, ◌+◌, ◌*◌, ◌-◌, ◌<◌, ◌≤◌, List, [], ◌∷◌, ◌++◌, Option, Some, None, refl, sym, ap, ◌∙◌, append_assoc, append-nil, arith}
use Rattle.std.specs.Prelude.{◌^◌}
use Rattle.std.specs.List.{flat_map}
use Rattle.outside.specs.Library.{FileTable}
use Rattle.cache_core.specs.declared.calls.Call.{Call}
use Rattle.font_decode.specs.Desks.{Loaded, misses}
use Rattle.page_index.specs.Document.{pages_begun}
use Rattle.page_workers.specs.Rounds.{MayDraw}
use Rattle.page_workers.specs.Seating.{MayLeave}
use Rattle.page_workers.specs.Seats.{BenchFits, room_at}
use Rattle.page_workers.specs.declared.bench.Bench.{Bench}
use Rattle.page_workers.specs.declared.worker.Worker.{Worker}
use Rattle.turn_lock.specs.Seats.{SeatView}
use Rattle.dvi_run.specs.Jobs.{WorkerDrewJob, calls_since, number_at}
use Rattle.dvi_run.specs.Outside.{Sources}
use Rattle.dvi_run.specs.Rounds.{Site}
use Rattle.job_spool.specs.Workers.{IsSeated}

-- ---- loads

pub misses_more : (xs ys : List Call) → misses (xs ++ ys) ≡ misses xs + misses ys
misses_more [] ys = omega arith
misses_more (c ∷ xs) ys = let rest = misses_more xs ys in omega (arith, rest)

pub loaded_more : (k l n a b c x y z : ℕ) → n ≡ k + l → Loaded k a b x y → Loaded l b c y z → Loaded n a c x z
loaded_more k l n a b c x y z is p q = record {
  loads = record { most = omega (arith, p.loads.most, q.loads.most); never_falls = omega (arith, p.loads.never_falls, q.loads.never_falls) };
  counted = record { most = omega (arith, p.counted.most, q.counted.most); never_falls = omega (arith, p.counted.never_falls, q.counted.never_falls) };
  same = λ low.
      let before : b < 2 ^ 64 - 1 = omega (arith, q.loads.never_falls) in
      let first = p.same before in
      let second = q.same low in
      omega arith;
}

-- ---- a seat

pub may_draw : {F : Type 0} (sources : Sources F) (known : Option FileTable) (bench : Bench) (number left count : ℕ) (calls : List Call) (before now : Worker F) → count ≤ left → IsSeated sources known bench number left calls before now
    → MayDraw sources.library bench count now
may_draw sources known bench number left count calls before now few seated = record {
  fits = seated.fits;
  no_result = seated.none;
  no_counter = seated.counter;
  room = let room = seated.room in omega (arith, few, room);
}

pub seated_more : {F : Type 0} (s : Site F) (MayBreak : ℕ → Type 0) (MayWant : Type 0) (number left fewer : ℕ) (calls : List Call) (before now later : Worker F) → fewer + pages_begun s.reading ≤ left
    → IsSeated (record { library = s.library; faults = s.faults; loads = s.loads }) s.given.library s.bench number left calls before now → WorkerDrewJob s MayBreak MayWant now later
    → IsSeated (record { library = s.library; faults = s.faults; loads = s.loads }) s.given.library s.bench number fewer (calls ++ calls_since now later) before later
seated_more s MayBreak MayWant number left fewer calls before now later few seated drew = record {
  fits = drew.fits;
  none = drew.none;
  counter = drew.counter;
  library = drew.library ∙ seated.library;
  numbered = drew.number ∙ seated.numbered;
  room =
      let had : left * 2 ^ 24 ≤ room_at now.loads now.seat = seated.room in
      let used : room_at now.loads now.seat ≤ room_at later.loads later.seat + pages_begun s.reading * 2 ^ 24 = drew.room in
      omega (arith, few, had, used);
  called = drew.calls ∙ ap (λ (l : List Call). l ++ calls_since now later) seated.called;
  faults = let a = seated.faults in let b = drew.faults in omega (arith, a, b);
  loaded =
      let more = misses_more calls (calls_since now later) in
      loaded_more (8 * misses calls) (8 * misses (calls_since now later)) (8 * misses (calls ++ calls_since now later)) _ _ _ _ _ _ (omega (arith, more)) seated.loaded drew.loaded;
}

-- a seat for which fewer pages are left
pub seated_on : {F : Type 0} (sources : Sources F) (known : Option FileTable) (bench : Bench) (number left fewer : ℕ) (calls : List Call) (before now : Worker F) → fewer ≤ left → IsSeated sources known bench number left calls before now
    → IsSeated sources known bench number fewer calls before now
seated_on sources known bench number left fewer calls before now few seated = record {
  fits = seated.fits;
  none = seated.none;
  counter = seated.counter;
  library = seated.library;
  numbered = seated.numbered;
  room = let room = seated.room in omega (arith, few, room);
  called = seated.called;
  faults = seated.faults;
  loaded = seated.loaded;
}

leaves : (known : Option FileTable) (bench : Bench) (number : ℕ) {F : Type 0} (w : Worker F) (o : Option SeatView) → w.seat ≡ o → BenchFits known bench o → number_at o ≡ Some number → MayLeave bench.cache number w
leaves known bench number w None is fits at = absurd fits
leaves known bench number w (Some s) is fits at =
    let same : s.view.number ≡ number = cc at in
    record { seat = s; is = is; lock = fits.lock; number = same; idle = fits.idle }

pub may_leave : {F : Type 0} (sources : Sources F) (known : Option FileTable) (bench : Bench) (number left : ℕ) (calls : List Call) (before now : Worker F) → IsSeated sources known bench number left calls before now → MayLeave bench.cache number now
may_leave sources known bench number left calls before now seated = leaves (sources.library now.source) bench number now now.seat refl seated.fits seated.numbered

-- ---- lists joined

pub flat_more : {A B : Type 0} (f : A → List B) (xs : List A) (x : A) → flat_map f (xs ++ x ∷ []) ≡ flat_map f xs ++ f x
flat_more f [] x = append-nil (f x)
flat_more f (y ∷ xs) x = ap (λ l. f y ++ l) (flat_more f xs x) ∙ sym (append_assoc (f y) (flat_map f xs) (f x))
