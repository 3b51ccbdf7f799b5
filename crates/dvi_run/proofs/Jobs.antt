-- A worker in a job: what its trail says of the calls by which those of its seat grew.
use Rattle.std.proofs.Common.{length, drop, ◌≡◌, ◌⊎◌, inl, inr, ℕ, ◌*◌, List, ◌++◌, Option, Some, None, refl, sym, ap, subst, ◌∙◌}
use Rattle.std.proofs.lemmas.List.{drop_at}
use Rattle.outside.specs.Library.{FileTable}
use Rattle.outside.specs.declared.keys.FontKey.{FontKey}
use Rattle.pixel_round.specs.declared.units.Units.{Units}
use Rattle.cache_core.specs.declared.calls.Call.{Call}
use Rattle.cache_core.specs.Histories.{AllWeigh, NoneReleased, SeatCalls, looks}
use Rattle.turn_lock.specs.Seats.{SeatView}
use Rattle.font_decode.specs.Desks.{Loaded, ReleasedLast, SeatAnsweredFor, Trail, TrailGrew, misses}
use Rattle.font_decode.specs.Loads.{MAX_LOADS}
use Rattle.font_decode.specs.Weights.{IsWeightOf}
use Rattle.page_index.specs.Document.{pages_begun}
use Rattle.page_index.specs.Pages.{document_units}
use Rattle.page_workers.specs.Rounds.{MayDraw, trail_of}
use Rattle.page_workers.specs.Seats.{BenchFits, asked_at, library_at, own_calls, trail_at, units_at}
use Rattle.page_workers.specs.declared.worker.Worker.{Worker}
use Rattle.dvi_run.specs.Pages.{finding}
use Rattle.dvi_run.specs.Looked.{BrokenLooks, WholeLooks}
use Rattle.dvi_run.specs.Jobs.{WorkerDrewJob, calls_at, calls_since, number_at}
use Rattle.dvi_run.specs.Rounds.{AfterRounds, MayBegin, Site, Trails, WasCut, indexed_of, keys_of, keys_since}
use Rattle.dvi_run.specs.Shares.{pages_since}

-- ---- a worker that may begin

units_fit : {F : Type 0} (s : Site F) (known : Option FileTable) (of_document : document_units s.given.res s.reading ≡ Some s.bench.units) (o : Option SeatView) → BenchFits known s.bench o → units_at o ≡ document_units s.given.res s.reading
units_fit s known of_document None fits = absurd fits
units_fit s known of_document (Some t) fits = ap Some (sym fits.units) ∙ sym of_document

pub may_begin_job : {F : Type 0} (s : Site F) (w : Worker F) → document_units s.given.res s.reading ≡ Some s.bench.units → MayDraw s.library s.bench (pages_begun s.reading) w → library_at w.seat ≡ s.given.library → MayBegin s w
may_begin_job s w of_document m library = record {
  fits = m.fits;
  library = library;
  units = units_fit s (s.library w.source) of_document w.seat m.fits;
  none = m.no_result;
  counter = m.no_counter;
  room = m.room;
}

-- ---- a worker afterwards

module _ {F : Type 0} (s : Site F) (MayBreak : ℕ → Type 0) (MayWant : Type 0) (start now : Worker F) (begun : MayBegin s start) (ended : AfterRounds s MayBreak MayWant start now) where
  module _ (a b : SeatView) (first : start.seat ≡ Some a) (last : now.seat ≡ Some b) where
    abbrev from : Trail
    from = record { seat = a.view.number; part = a.view.part; calls = own_calls a; loads = s.loads start.source; counted = start.loads }

    abbrev to : Trail
    to = record { seat = b.view.number; part = b.view.part; calls = own_calls b; loads = s.loads now.source; counted = now.loads }

    abbrev Answers : Type 0 → Type 0
    Answers W = SeatAnsweredFor W (asked_at (Some a)) (asked_at (Some b)) from to

    trail_here : (W : Type 0) → Trails s W start now → Answers W
    trail_here W t =
        let h : TrailGrew W (asked_at (Some a)) (asked_at (Some b)) (trail_at (s.loads start.source) start.loads (Some a)) (trail_at (s.loads now.source) now.loads (Some b)) =
        subst (λ (o : Option SeatView). TrailGrew W (asked_at (Some a)) (asked_at o) (trail_at (s.loads start.source) start.loads (Some a)) (trail_at (s.loads now.source) now.loads o)) last
        (subst (λ (o : Option SeatView). TrailGrew W (asked_at o) (asked_at now.seat) (trail_at (s.loads start.source) start.loads o) (trail_of s.loads now)) first t) in
        let e : h.0 ≡ to = cc h.1 in
        subst (λ (x : Trail). SeatAnsweredFor W (asked_at (Some a)) (asked_at (Some b)) from x) e h.2

    since : calls_since start now ≡ drop (length (own_calls a)) (own_calls b)
    since = ap (λ (o : Option SeatView). drop (length (calls_at o)) (calls_at now.seat)) first ∙ ap (λ (o : Option SeatView). drop (length (own_calls a)) (calls_at o)) last

    calls_are : (W : Type 0) (t : Answers W) → calls_since start now ≡ t.answers.calls
    calls_are W t = since ∙ (ap (drop (length (own_calls a))) t.answers.grew ∙ drop_at (own_calls a) t.answers.calls (length (own_calls a)) refl)

    abbrev answers : Answers ⊥
    answers = trail_here ⊥ ended.trail

    calls : calls_since start now ≡ answers.answers.calls
    calls = calls_are ⊥ answers

    keys_here : keys_since start now ≡ answers.keys
    keys_here =
        let there : Some (looks (own_calls b)) ≡ Some (looks (own_calls a) ++ answers.keys) = answers.grew in
        let grew : looks (own_calls b) ≡ looks (own_calls a) ++ answers.keys = cc there in
        ap (λ (o : Option SeatView). drop (length (keys_of o)) (keys_of now.seat)) first ∙ ap (λ (o : Option SeatView). drop (length (looks (own_calls a))) (keys_of o)) last
        ∙ (ap (drop (length (looks (own_calls a)))) grew ∙ drop_at (looks (own_calls a)) answers.keys (length (looks (own_calls a))) refl)

    abbrev Whole : List FontKey → Type 0
    Whole ks = WholeLooks (finding s.given s.reading) (indexed_of s.given s.reading) s.given.sheet (pages_since start now) ks

    abbrev Broke : List FontKey → Type 0
    Broke ks = BrokenLooks (λ page. MayBreak page × WasCut s MayWant start now) (finding s.given s.reading) (indexed_of s.given s.reading) s.given.sheet (pages_since start now) ks

    looked : (NoneReleased (calls_since start now) × Whole answers.keys) ⊎ Broke answers.keys
    looked = elim ended.looked [
      | inl w ↦
          let t = trail_here (Unit {0}) w.0 in
          inl (subst NoneReleased (sym (calls_are (Unit {0}) t)) (t.answers.answered tt), subst Whole keys_here w.1)
      | inr b ↦ inr (subst Broke keys_here b)
    ]

    weighed : AllWeigh (IsWeightOf s.given.library (document_units s.given.res s.reading)) (calls_since start now)
    weighed =
        subst (λ (l : List Call). AllWeigh (IsWeightOf s.given.library (document_units s.given.res s.reading)) l) (sym calls)
        (subst (λ (o : Option FileTable). AllWeigh (IsWeightOf o (document_units s.given.res s.reading)) answers.answers.calls) (sym (ap library_at first) ∙ begun.library)
        (subst (λ (u : Option Units). AllWeigh (IsWeightOf a.view.part.library u) answers.answers.calls) (sym (ap units_at first) ∙ begun.units) answers.answers.weighed))

    grew : calls_at now.seat ≡ calls_at start.seat ++ calls_since start now
    grew =
        ap calls_at last ∙ answers.answers.grew ∙ ap (λ (l : List Call). own_calls a ++ l) (sym calls) ∙ ap (λ (o : Option SeatView). calls_at o ++ calls_since start now) (sym first)

    here : WorkerDrewJob s MayBreak MayWant start now
    here = record {
      none = ended.none;
      counter = ended.counter;
      fits = ended.kept.fits;
      library = ended.kept.library;
      number = ap number_at last ∙ ap Some answers.answers.seat ∙ sym (ap number_at first);
      room = ended.room;
      faults = ended.kept.faults;
      pages = ended.pages;
      calls = grew;
      keys = answers.keys;
      looked = looked;
      answered = subst (λ (l : List Call). SeatCalls answers.keys l) (sym calls) answers.answers.for_keys;
      weighed = weighed;
      last = subst ReleasedLast (sym calls) answers.answers.last;
      loaded = subst (λ (l : List Call). Loaded (MAX_LOADS * misses l) (s.loads start.source) (s.loads now.source) start.loads now.loads) (sym calls) answers.answers.loaded;
    }

  by_seats : (o p : Option SeatView) → start.seat ≡ o → now.seat ≡ p → BenchFits (s.library start.source) s.bench o → BenchFits (s.library now.source) s.bench p → WorkerDrewJob s MayBreak MayWant start now
  by_seats None p first last was fits = absurd was
  by_seats (Some a) None first last was fits = absurd fits
  by_seats (Some a) (Some b) first last was fits = here a b first last

  pub drew_job : WorkerDrewJob s MayBreak MayWant start now
  drew_job = by_seats start.seat now.seat refl refl begun.fits ended.kept.fits
