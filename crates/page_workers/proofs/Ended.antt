-- What came of a page whose looks were noted at its end.
use Rattle.std.proofs.Common.{◌≡◌, inl, inr, ℕ, List, [], Option, Some, None, Result, Ok, Err, refl, sym, ap, subst, ◌∙◌, arith, Global}
use Rattle.std.specs.Prelude.{All, IfOk, IfErr, length}
use Rattle.std.specs.Arc.{arc_value}
use Rattle.std.specs.declared.sync.Arc.{Arc}
use Rattle.std.proofs.lemmas.List.Elements.{All-nil}
use Rattle.outside.specs.FontKeys.{IsFontKey}
use Rattle.outside.specs.Library.{FileTable}
use Rattle.outside.specs.declared.keys.FontKey.{FontKey}
use Rattle.turn_lock.specs.Seats.{SeatView}
use Rattle.page_index.specs.Pages.{Indexed}
use Rattle.cache_core.specs.Histories.{looks}
use Rattle.font_decode.specs.Desks.{Trail, TrailGrew}
use Rattle.font_decode.specs.declared.desk.DeskStop.{DeskStop}
use Rattle.font_decode.specs.declared.desk.DeskStop.TheVariants as desk
use Rattle.font_decode.proofs.Trails.{trail_none}
use Rattle.page_draw.specs.Drawn.{IsBroken, IsDrawn, IsStop}
use Rattle.page_draw.specs.Members.{Finding}
use Rattle.page_draw.specs.Stops.{stop_of_desk}
use Rattle.page_draw.specs.Values.{value_of_drawn}
use Rattle.page_draw.specs.declared.drawn.Drawn.{Drawn}
use Rattle.page_draw.specs.declared.sheet.Sheet.{Sheet}
use Rattle.page_draw.specs.declared.stop.PageStop.{PageStop}
use Rattle.page_workers.specs.PageDesks.{DrawsPage, EndsAs}
use Rattle.page_workers.specs.Rounds.{IsOutcome, trail_of}
use Rattle.page_workers.specs.Seats.{BenchFits, asked_at, asked_with, own_calls, trail_at}
use Rattle.page_workers.specs.declared.bench.Bench.{Bench}
use Rattle.page_workers.specs.declared.worker.Worker.{Worker}
use Rattle.page_workers.proofs.Broken.{outcome_short}
use Rattle.page_workers.proofs.Pending.{with_none}

-- when a page begins, no look is pending
pub draws_first : {F : Type 0} (library : F → Option FileTable) (faults loads : F → ℕ) (asked : Option (List FontKey)) (began : Option Trail) (failed : ℕ) (bench : Bench) (w : Worker F)
    (pending : List (Arc FontKey Global)) → pending ≡ [] → BenchFits (library w.source) bench w.seat → asked_at w.seat ≡ asked → trail_of loads w ≡ began → faults w.source ≡ failed
    → DrawsPage library faults loads asked began failed bench w pending None
draws_first library faults loads asked began failed bench w pending none fits asked_is trail_is failed_is =
    let going : Option DeskStop = None in
    record {
      fits = fits;
      keys = subst (All (λ (k : Arc FontKey Global). IsFontKey (arc_value k))) (sym none) (All-nil (λ (k : Arc FontKey Global). IsFontKey (arc_value k)));
      room = omega (arith, ap (λ (l : List (Arc FontKey Global)). length l) none);
      trail = subst (λ (o : Option (List FontKey)). TrailGrew (going ≡ None) o (asked_at w.seat) began (trail_of loads w)) asked_is
          (subst (λ (t : Option Trail). TrailGrew (going ≡ None) (asked_at w.seat) (asked_at w.seat) t (trail_of loads w)) trail_is (trail_none (going ≡ None) (asked_at w.seat) (trail_of loads w)));
      cause = record { never_falls = omega (arith, failed_is); rose = λ e. absurd cc };
    }

module _ (Finds : Finding) (indexed : Indexed) (sheet : Sheet) (i : ℕ) where
  outcome_is : (old new : Option (List FontKey)) (r : Result Drawn PageStop) → IfOk r (λ d. IsDrawn Finds indexed sheet i (Ok (value_of_drawn d)) old new)
      → IfErr r (λ e. IsStop Finds indexed sheet i e old new) → IsOutcome Finds indexed sheet i r old new
  outcome_is old new (Ok drawn) done stopped = done
  outcome_is old new (Err stop) done stopped = stopped

  broken_off : (old new : Option (List FontKey)) (stop : DeskStop) → IsBroken Finds indexed sheet i old new → IsOutcome Finds indexed sheet i (Err (stop_of_desk stop)) old new
  broken_off old new desk.SourceFault broken = broken
  broken_off old new desk.NoMemory broken = broken

  pub ended_outcome : (W : Type 0) (known : Option FileTable) (bench : Bench) (loads counted : ℕ) (s t : Option SeatView) (began now : Option Trail) (asked wanted : Option (List FontKey))
      (none : List (Arc FontKey Global)) (drawn result : Result Drawn PageStop) → BenchFits known bench s → trail_at loads counted s ≡ began → asked_at s ≡ asked → none ≡ []
      → IfOk drawn (λ d. IsDrawn Finds indexed sheet i (Ok (value_of_drawn d)) (asked_with s none) wanted) → IfErr drawn (λ e. IsStop Finds indexed sheet i e (asked_with s none) wanted)
      → EndsAs drawn result wanted (asked_at t) → TrailGrew W asked (asked_at t) began now → IsOutcome Finds indexed sheet i result (asked_at s) (asked_at t)
  ended_outcome W known bench loads counted None t began now asked wanted none drawn result fits trail_is asked_is empty done stopped ends grew = absurd fits
  ended_outcome W known bench loads counted (Some s) t began now asked wanted none drawn result fits trail_is asked_is empty done stopped ends grew =
      let old = asked_at (Some s) in
      let first : asked_with (Some s) none ≡ old = ap (asked_with (Some s)) empty ∙ with_none (Some s) in
      let whole : IsOutcome Finds indexed sheet i drawn old wanted = subst (λ (o : Option (List FontKey)). IsOutcome Finds indexed sheet i drawn o wanted) first (outcome_is (asked_with (Some s) none) wanted drawn done stopped) in
      let noted = subst (λ (o : Option (List FontKey)). TrailGrew W o (asked_at t) (trail_at loads counted (Some s)) now) (sym asked_is)
      (subst (λ (b : Option Trail). TrailGrew W asked (asked_at t) b now) (sym trail_is) grew) in
      elim ends as (λ _. IsOutcome Finds indexed sheet i result old (asked_at t)) [
        | inl same ↦ subst (λ (o : Option (List FontKey)). IsOutcome Finds indexed sheet i result old o) (sym same.1) (subst (λ (r : Result Drawn PageStop). IsOutcome Finds indexed sheet i r old wanted) (sym same.0) whole)
        | inr short ↦
            subst (λ (r : Result Drawn PageStop). IsOutcome Finds indexed sheet i r old (asked_at t)) (sym short.2)
            (broken_off old (asked_at t) short.0
            (outcome_short Finds indexed sheet i (looks (own_calls s)) old (asked_at t) wanted noted.2.keys short.1 refl noted.2.grew short.3 drawn whole))
      ]
