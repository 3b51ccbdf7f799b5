-- A cache over which jobs were drawn, by workers with seats at its bench, and that is closed.
use Rattle.std.proofs.Common.{◌≡◌, ◌≢◌, ℕ, ◌+◌, ◌<◌, ◌≤◌, List, [], length, get_or, set, Option, Some, None, refl, sym, ap, subst, ◌∙◌, arith}
use Rattle.std.specs.Prelude.{◌^◌}
use Rattle.std.specs.List.{flat_map}
use Rattle.std.proofs.lemmas.List.{get_or-set_other}
use Rattle.outside.specs.Counts.{Rose}
use Rattle.cache_core.specs.Histories.{own}
use Rattle.cache_core.specs.Laws.{FewClaims}
use Rattle.cache_core.specs.Machine.{Legal}
use Rattle.cache_core.specs.Views.{calls_of}
use Rattle.cache_core.specs.declared.calls.Call.{Call}
use Rattle.cache_core.specs.declared.common.Common.{Common}
use Rattle.cache_core.specs.declared.limits.Limits.{Limits}
use Rattle.pixel_round.specs.Preamble.{AreUnits}
use Rattle.pixel_round.specs.declared.units.Units.{Units}
use Rattle.font_decode.specs.Desks.{misses}
use Rattle.page_index.specs.Pages.{Indexed}
use Rattle.turn_lock.specs.Histories.{AllMade}
use Rattle.page_workers.specs.Seating.{HasLeft, WasSeated}
use Rattle.page_workers.specs.SparePages.{SameButSparePages}
use Rattle.page_workers.specs.declared.bench.Bench.{Bench}
use Rattle.page_workers.specs.declared.worker.Worker.{Worker}
use Rattle.dvi_run.specs.Jobs.{calls_at}
use Rattle.dvi_run.specs.Outside.{Sources}
use Rattle.dvi_run.specs.Pages.{Setup}
use Rattle.dvi_run.specs.Together.{SourceRose}
use Rattle.dvi_run.proofs.RunOfWorkers.{one_of}
use Rattle.job_spool.specs.Caches.{HasCache, IsHistoryOf}
use Rattle.job_spool.specs.Drawn.{LeftAlone, SharersDrew, left_for}
use Rattle.job_spool.specs.Jobs.{JobView}
use Rattle.job_spool.specs.Parts.{Part}
use Rattle.job_spool.specs.Sharing.{Documents, sharer, units_in}
use Rattle.job_spool.specs.Workers.{IsResting, IsSeated}
use Rattle.job_spool.specs.declared.job.Job.{Job}
use Rattle.job_spool.proofs.CachesDrawn.{closed, drawn_by, field_kept}
use Rattle.job_spool.proofs.SeatsLeft.{rests, seated_now}

-- ---- the job that keeps the history

-- what its document has units for
pub has_document : (o : Option Indexed) (u : Units) → Some u ≡ units_in o → (x : Indexed) × (o ≡ Some x)
has_document None u is = absurd cc
has_document (Some x) u is = (x, refl)

pub closed_alone : {I O : Type 0} (docs : Documents) (first : ℕ) (x : Indexed) (jobs now : List (Job I O)) (v : Job I O) → sharer docs first first ≡ Some x → first < length now → ((d : Job I O) → v.input ≡ (get_or now first d).input) → LeftAlone docs first jobs now → LeftAlone docs first jobs (set now first v)
closed_alone docs first x jobs now v shares there same alone = record {
  others = λ k d none.
      let other : k ≢ first = λ e. absurd (let here : Some x ≡ None = sym shares ∙ subst (λ (n : ℕ). sharer docs first n ≡ None) e none in cc) in
      get_or-set_other now first k v d other ∙ alone.others k d none;
  input = λ k d. field_kept (λ y. y.input) now first v d there (same d) k ∙ alone.input k d;
}

-- ---- the workers, from before their seats on

module _ {F I O : Type 0} (g : Setup) (limits : Limits) (sources : Sources F) (view : JobView I O) (docs : Documents) (first : ℕ) (jobs : List (Job I O)) (xs ws : List (Worker F)) (bench : Bench) (part : Common) (library : part.library ≡ g.library) (units : part.units ≡ bench.units) (sound : AreUnits bench.units)
    (rested : (k : ℕ) (u : Worker F) → k < length xs → IsResting sources g.library 0 (get_or xs k u) (get_or xs k u)) (room : (k : ℕ) (u : Worker F) → k < length xs → (get_or xs k u).loads ≤ 2 ^ 61)
    (seated : (k : ℕ) (u : Worker F) → k < length xs → WasSeated bench.cache part (k + 1) (get_or xs k u) (get_or ws k u)) (long : length ws ≡ length xs) where
  pub all_seated : (k : ℕ) (u : Worker F) → k < length ws → IsSeated sources g.library bench (k + 1) 1000000 [] (get_or ws k u) (get_or ws k u)
  all_seated k u lt =
      let below : k < length xs = omega (arith, lt, long) in
      seated_now sources g.library bench part (k + 1) (get_or xs k u) (get_or ws k u) (rested k u below) library units sound (room k u below) (seated k u below)

  module _ (now : List (Worker F)) (same : length now ≡ length ws) (js : List (Job I O)) (d : Job I O) (drew : SharersDrew (drawn_by g limits sources view docs first (length xs) (length jobs) d jobs js ws now) g.library bench docs first (length jobs)) where
    module _ (joined after : List (Worker F)) (joins : length joined ≡ length now) (history : List Call) (left : (k : ℕ) (u : Worker F) → k < length now → HasLeft history (k + 1) (get_or now k u) (get_or joined k u))
        (but : (k : ℕ) (u : Worker F) → k < length joined → SameButSparePages (get_or joined k u) (get_or after k u)) where
      left_at : (k : ℕ) (u : Worker F) → k < length xs → HasLeft history (k + 1) (get_or now k u) (get_or joined k u)
      left_at k u lt = let there : k < length now = omega (arith, lt, same, long) in left k u there

      but_at : (k : ℕ) (u : Worker F) → k < length xs → SameButSparePages (get_or joined k u) (get_or after k u)
      but_at k u lt = let there : k < length joined = omega (arith, lt, joins, same, long) in but k u there

      pub all_rest : (k : ℕ) (u : Worker F) → k < length xs → IsResting sources g.library (misses (own (k + 1) history)) (get_or xs k u) (get_or after k u)
      all_rest k u lt =
          rests sources g.library bench part (k + 1) (get_or xs k u) (get_or ws k u) (rested k u lt) library units sound (room k u lt) (seated k u lt) (left_for docs first (length jobs)) (flat_map (λ (p : Part). p.calls k) drew.parts) (get_or now k u) (get_or joined k u) (get_or after k u)
          (drew.seats k u lt) history (left_at k u lt) (but_at k u lt)

      source_before : (k : ℕ) (u : Worker F) → k < length xs → (get_or ws k u).source ≡ (get_or xs k u).source
      source_before k u lt = (seated k u lt).same.source

      source_after : (k : ℕ) (u : Worker F) → k < length xs → (get_or now k u).source ≡ (get_or after k u).source
      source_after k u lt = sym ((but_at k u lt).source ∙ (left_at k u lt).same.source)

      -- the source of a seat's worker that failed
      failed : (i : ℕ) → i < length xs → ((u : Worker F) → SourceRose sources.faults (get_or ws i u) (get_or now i u)) → (u : Worker F) → SourceRose sources.faults (get_or xs i u) (get_or after i u)
      failed i lt f u =
          subst (λ (x : F). Rose (sources.faults x) (sources.faults (get_or after i u).source)) (source_before i u lt)
          (subst (λ (x : F). Rose (sources.faults (get_or ws i u).source) (sources.faults x)) (source_after i u lt) (f u))

      calls_are : (seat : ℕ) → seat < length xs → own (seat + 1) history ≡ flat_map (λ (p : Part). p.calls seat) drew.parts
      calls_are seat lt =
          let u = one_of xs seat lt in
          let l = left_at seat u lt in
          l.own ∙ sym (ap calls_at l.is) ∙ (drew.seats seat u lt).called

      pub one_history : Legal limits history → AllMade (length xs + 1) history → own 0 history ≡ [] → FewClaims history → IsHistoryOf limits (length xs) drew.parts history
      one_history legal made none few = record { legal = legal; made = made; none_of_first = none; few_claims = few; calls = calls_are }

      pub cache_closed : (v : Job I O) → first < length js → v.out ≡ (get_or js first d).out → v.status ≡ (get_or js first d).status → calls_of v.history.items ≡ history → IsHistoryOf limits (length xs) drew.parts history
          → HasCache (drawn_by g limits sources view docs first (length xs) (length jobs) d jobs (set js first v) xs after) docs first
      cache_closed v there out status is one =
          closed g limits sources view docs first (length xs) (length jobs) d jobs js v there out status g.library bench ws now xs after failed drew (subst (λ (h : List Call). IsHistoryOf limits (length xs) drew.parts h) (sym is) one)
