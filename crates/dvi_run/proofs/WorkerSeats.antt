-- A worker from its seat to the end of the run.
use Rattle.std.proofs.Common.{length, drop, ◌≡◌, ◌⊎◌, inl, inr, ℕ, ◌*◌, ◌≤◌, List, [], ◌++◌, Option, Some, None, refl, sym, ap, subst, ◌∙◌, arith}
use Rattle.std.specs.Prelude.{IfSome}
use Rattle.outside.specs.Library.{FileTable}
use Rattle.outside.specs.declared.keys.FontKey.{FontKey}
use Rattle.cache_core.specs.declared.calls.Call.{Call}
use Rattle.cache_core.specs.declared.common.Common.{Common}
use Rattle.cache_core.specs.Histories.{AllWeigh, own, open_claim, SeatCalls, NoneReleased, looks}
use Rattle.page_index.specs.Document.{Reading, pages_begun}
use Rattle.page_index.specs.Pages.{document_units}
use Rattle.turn_lock.specs.Seats.{SeatView}
use Rattle.pixel_round.specs.Preamble.{AreUnits}
use Rattle.pixel_round.specs.declared.units.Units.{Units}
use Rattle.font_decode.specs.Desks.{Trail, TrailGrew, SeatAnsweredFor, ReleasedLast, Loaded, LoadedFiles, files_loaded, misses}
use Rattle.font_decode.specs.Loads.{MAX_LOADS}
use Rattle.font_decode.specs.Weights.{IsWeightOf}
use Rattle.page_workers.specs.declared.worker.Worker.{Worker}
use Rattle.page_workers.specs.Seats.{SeatFits, BenchFits, own_calls, asked_at, trail_at, room_at, library_at, units_at}
use Rattle.page_workers.specs.Seating.{WasSeated, MayLeave}
use Rattle.page_workers.specs.SparePages.{HasNoSparePages}
use Rattle.page_workers.specs.Rounds.{trail_of}
use Rattle.dvi_run.specs.Pages.{Setup, finding}
use Rattle.dvi_run.specs.Looked.{WholeLooks, BrokenLooks}
use Rattle.dvi_run.specs.Shares.{pages_since}
use Rattle.dvi_run.specs.Rounds.{Site, AfterRounds, AllLooked, LoadsAreOf, MayBegin, IsFresh, WasCut, WorkerRan, keys_of, keys_since, indexed_of, Trails}
use Rattle.dvi_run.proofs.Looks.{broken_as}
use Rattle.dvi_run.proofs.FilesLoaded.{loads_settled, no_loads}

module _ {F : Type 0} (s : Site F) (part : Common) (known : part.library ≡ s.given.library) (same_units : part.units ≡ s.bench.units)
    (of_document : document_units s.given.res s.reading ≡ Some s.bench.units) (sound : AreUnits s.bench.units) (k : ℕ) (w start : Worker F) (fresh : IsFresh s.library s.given.library w)
    (seated : WasSeated s.bench.cache part k w start) where
  at_seat : {A : Type 0} (f : Option SeatView → A) → f start.seat ≡ f (Some seated.seat)
  at_seat f = ap f seated.is

  no_keys : keys_of (Some seated.seat) ≡ []
  no_keys = ap looks seated.new.no_call

  knows_library : (common : Option FileTable) → common ≡ s.given.library → IfSome common (λ l. s.library start.source ≡ Some l)
  knows_library common e = subst (λ (o : Option FileTable). IfSome o (λ l. s.library start.source ≡ Some l)) (sym e)
      (subst (λ (x : F). IfSome s.given.library (λ l. s.library x ≡ Some l)) (sym seated.same.source) fresh.knows_library)

  is_at : SeatFits (s.library start.source) s.bench seated.seat
  is_at = record {
    lock = seated.new.lock;
    idle = seated.new.idle;
    free = ap open_claim seated.new.no_call;
    units = sym (ap (λ (p : Common). p.units) seated.new.part ∙ same_units);
    sound = sound;
    knows_library = knows_library seated.seat.view.part.library (ap (λ (p : Common). p.library) seated.new.part ∙ known);
  }

  of_library : library_at start.seat ≡ s.given.library
  of_library = at_seat library_at ∙ ap (λ (p : Common). p.library) seated.new.part ∙ known

  -- nothing was drawn or asked for before
  pages_all : (now : Worker F) → pages_since start now ≡ now.pages.items
  pages_all now = ap (λ (l : List ℕ). drop (length l) now.pages.items) (seated.same.pages ∙ fresh.pages)

  keys_all : (now : Worker F) → keys_since start now ≡ keys_of now.seat
  keys_all now = ap (λ (l : List FontKey). drop (length l) (keys_of now.seat)) (at_seat keys_of ∙ no_keys)

  pub may_begin : pages_begun s.reading ≤ 1000000 → MayBegin s start
  may_begin few = record {
    fits = subst (λ (o : Option SeatView). BenchFits (s.library start.source) s.bench o) (sym seated.is) is_at;
    library = of_library;
    units = at_seat units_at ∙ ap (λ (p : Common). Some p.units) seated.new.part ∙ ap Some same_units ∙ sym of_document;
    none = seated.same.results ∙ fresh.none;
    counter = seated.same.counter ∙ fresh.counter;
    room =
        let drawn = seated.new.drawn in
        let loads : start.loads ≡ 0 = seated.same.loads ∙ fresh.loads in
        let room : room_at start.loads start.seat ≡ room_at 0 (Some seated.seat) = ap (λ (n : ℕ). room_at n start.seat) loads ∙ at_seat (room_at 0) in
        omega (arith, room, drawn, few);
  }

  -- where each page had a bitmap, no claim was given up
  none_released : (now : Worker F) → Trails s (Unit {0}) start now → (t : SeatView) → now.seat ≡ Some t → NoneReleased (own_calls t)
  none_released now trail t is =
      let h = subst (λ (o : Option SeatView). TrailGrew (Unit {0}) (asked_at (Some seated.seat)) (asked_at o) (trail_at (s.loads start.source) start.loads (Some seated.seat)) (trail_at (s.loads now.source) now.loads o)) is
      (subst (λ (o : Option SeatView). TrailGrew (Unit {0}) (asked_at o) (asked_at now.seat) (trail_at (s.loads start.source) start.loads o) (trail_of s.loads now)) seated.is trail) in
      let known : h.0 ≡ record { seat = t.view.number; part = t.view.part; calls = own_calls t; loads = s.loads now.source; counted = now.loads } = cc h.1 in
      let grew : own_calls t ≡ h.2.answers.calls = sym (ap (λ (x : Trail). x.calls) known) ∙ h.2.answers.grew ∙ ap (λ (l : List Call). l ++ h.2.answers.calls) seated.new.no_call in
      subst NoneReleased (sym grew) (h.2.answers.answered tt)

  -- what was loaded for these calls
  loads_in : (W : Type 0) (now : Worker F) → Trails s W start now → (t : SeatView) → now.seat ≡ Some t → LoadsAreOf W s.given s.reading (own_calls t) now.loads
  loads_in W now trail t is =
      let h = subst (λ (o : Option SeatView). TrailGrew W (asked_at (Some seated.seat)) (asked_at o) (trail_at (s.loads start.source) start.loads (Some seated.seat)) (trail_at (s.loads now.source) now.loads o)) is
      (subst (λ (o : Option SeatView). TrailGrew W (asked_at o) (asked_at now.seat) (trail_at (s.loads start.source) start.loads o) (trail_of s.loads now)) seated.is trail) in
      let there : h.0 ≡ record { seat = t.view.number; part = t.view.part; calls = own_calls t; loads = s.loads now.source; counted = now.loads } = cc h.1 in
      let a = h.2.answers in
      let grew : own_calls t ≡ a.calls = sym (ap (λ (x : Trail). x.calls) there) ∙ a.grew ∙ ap (λ (l : List Call). l ++ a.calls) seated.new.no_call in
      let counted : h.0.counted ≡ now.loads = ap (λ (x : Trail). x.counted) there in
      let begun : start.loads ≡ 0 = seated.same.loads ∙ fresh.loads in
      let all : LoadsAreOf W s.given s.reading a.calls h.0.counted = record {
        few = let most = a.loaded.counted.most in omega (arith, most, begun);
        files =
            subst (λ (n : ℕ). IfSome s.given.library (λ l. IfSome (document_units s.given.res s.reading) (λ u. LoadedFiles W (files_loaded l u a.calls) n h.0.counted))) begun
            (subst (λ (o : Option FileTable). IfSome o (λ l. IfSome (document_units s.given.res s.reading) (λ u. LoadedFiles W (files_loaded l u a.calls) start.loads h.0.counted))) (ap (λ (p : Common). p.library) seated.new.part ∙ known)
            (subst (λ (v : Option Units). IfSome seated.seat.view.part.library (λ l. IfSome v (λ u. LoadedFiles W (files_loaded l u a.calls) start.loads h.0.counted)))
            (ap (λ (p : Common). Some p.units) seated.new.part ∙ ap Some same_units ∙ sym of_document) a.files));
      } in
      subst (λ (l : List Call). LoadsAreOf W s.given s.reading l now.loads) (sym grew) (subst (λ (n : ℕ). LoadsAreOf W s.given s.reading a.calls n) counted all)

  -- ---- at the end

  module _ (MayBreak : ℕ → Type 0) (MayWant : Type 0) (now : Worker F) (ended : AfterRounds s MayBreak MayWant start now) (t : SeatView) (is : now.seat ≡ Some t) where
    trail_here : TrailGrew ⊥ (asked_at (Some seated.seat)) (asked_at (Some t)) (trail_at (s.loads start.source) start.loads (Some seated.seat)) (trail_at (s.loads now.source) now.loads (Some t))
    trail_here =
        subst (λ (o : Option SeatView). TrailGrew ⊥ (asked_at (Some seated.seat)) (asked_at o) (trail_at (s.loads start.source) start.loads (Some seated.seat)) (trail_at (s.loads now.source) now.loads o)) is
        (subst (λ (o : Option SeatView). TrailGrew ⊥ (asked_at o) (asked_at now.seat) (trail_at (s.loads start.source) start.loads o) (trail_of s.loads now)) seated.is ended.trail)

    abbrev after_of : Trail
    after_of = record { seat = t.view.number; part = t.view.part; calls = own_calls t; loads = s.loads now.source; counted = now.loads }

    abbrev before_of : Trail
    before_of = record { seat = seated.seat.view.number; part = seated.seat.view.part; calls = own_calls seated.seat; loads = s.loads start.source; counted = start.loads }

    answers : SeatAnsweredFor ⊥ (asked_at (Some seated.seat)) (asked_at (Some t)) before_of after_of
    answers = let e : trail_here.0 ≡ after_of = cc trail_here.1 in subst (λ (x : Trail). SeatAnsweredFor ⊥ (asked_at (Some seated.seat)) (asked_at (Some t)) before_of x) e trail_here.2

    pub number : t.view.number ≡ k
    number = answers.answers.seat ∙ seated.new.number

    calls_are : own_calls t ≡ answers.answers.calls
    calls_are = answers.answers.grew ∙ ap (λ (l : List Call). l ++ answers.answers.calls) seated.new.no_call

    keys_here : keys_since start now ≡ answers.keys
    keys_here =
        let there : Some (keys_of (Some t)) ≡ Some ([] ++ answers.keys) = answers.grew ∙ ap (λ (l : List FontKey). Some (l ++ answers.keys)) no_keys in
        keys_all now ∙ ap keys_of is ∙ cc there

    module _ (history : List Call) (after : Worker F) (left : own k history ≡ own_calls t) (none : after.seat ≡ None) (source : after.source ≡ now.source) (loads : after.loads ≡ now.loads)
        (pages : after.pages.items ≡ now.pages.items) (results : after.results.items ≡ now.results.items) (counter : after.counter ≡ now.counter) (spare_pages : HasNoSparePages after) where
      own_here : own k history ≡ answers.answers.calls
      own_here = left ∙ calls_are

      abbrev Whole : List ℕ → List FontKey → Type 0
      Whole ps ks = WholeLooks (finding s.given s.reading) (indexed_of s.given s.reading) s.given.sheet ps ks

      abbrev Broke : List ℕ → List FontKey → Type 0
      Broke ps ks = BrokenLooks MayBreak (finding s.given s.reading) (indexed_of s.given s.reading) s.given.sheet ps ks

      pages_here : pages_since start now ≡ after.pages.items
      pages_here = pages_all now ∙ sym pages

      all_here : AllLooked s start now → Whole after.pages.items answers.keys
      all_here w = subst (λ (ps : List ℕ). Whole ps answers.keys) pages_here (subst (λ (ks : List FontKey). Whole (pages_since start now) ks) keys_here w)

      looked_here : (NoneReleased (own k history) × Whole after.pages.items answers.keys) ⊎ Broke after.pages.items answers.keys
      looked_here = elim ended.looked [
        | inl w ↦ inl (
          subst NoneReleased (sym left) (none_released now w.0 t is),
          all_here w.1,
        )
        | inr b ↦
            let may = broken_as (λ p. MayBreak p × WasCut s MayWant start now) MayBreak (finding s.given s.reading) (indexed_of s.given s.reading) s.given.sheet (pages_since start now) (keys_since start now) (λ p cut. cut.0) b in
            inr (subst (λ (ps : List ℕ). Broke ps answers.keys) pages_here (subst (λ (ks : List FontKey). Broke (pages_since start now) ks) keys_here may))
      ]

      weighed_here : AllWeigh (IsWeightOf s.given.library (document_units s.given.res s.reading)) (own k history)
      weighed_here =
          subst (λ (l : List Call). AllWeigh (IsWeightOf s.given.library (document_units s.given.res s.reading)) l) (sym own_here)
          (subst (λ (o : Option FileTable). AllWeigh (IsWeightOf o (document_units s.given.res s.reading)) answers.answers.calls) (ap (λ (p : Common). p.library) seated.new.part ∙ known)
          (subst (λ (u : Option Units). AllWeigh (IsWeightOf seated.seat.view.part.library u) answers.answers.calls) (ap (λ (p : Common). Some p.units) seated.new.part ∙ ap Some same_units ∙ sym of_document) answers.answers.weighed))

      told_here : t.view.part.library ≡ s.given.library
      told_here = sym (ap library_at is) ∙ ended.kept.library ∙ of_library

      still_tells : IfSome s.given.library (λ l. s.library after.source ≡ Some l)
      still_tells =
          let fits : SeatFits (s.library now.source) s.bench t = subst (λ (o : Option SeatView). BenchFits (s.library now.source) s.bench o) is ended.kept.fits in
          subst (λ (x : F). IfSome s.given.library (λ l. s.library x ≡ Some l)) (sym source)
          (subst (λ (o : Option FileTable). IfSome o (λ l. s.library now.source ≡ Some l)) told_here fits.knows_library)

      pub ran : (AllDone : Type 0) → (AllDone → Trails s (Unit {0}) start now) → (AllDone → AllLooked s start now) → WorkerRan MayBreak AllDone s.library s.faults s.loads s.given s.reading history k w after
      ran AllDone settled through = record {
        seat = none;
        none = results ∙ ended.none;
        counter = counter ∙ ended.counter;
        spare_pages = λ none. spare_pages;
        knows_library = still_tells;
        faults_rose = subst (λ (x : F). s.faults x ≤ s.faults after.source) seated.same.source (subst (λ (x : F). s.faults start.source ≤ s.faults x) (sym source) ended.kept.faults);
        keys = answers.keys;
        looked = looked_here;
        answered = subst (λ (l : List Call). SeatCalls answers.keys l) (sym own_here) answers.answers.for_keys;
        weighed = weighed_here;
        last = subst ReleasedLast (sym own_here) answers.answers.last;
        whole = λ e. subst NoneReleased (sym left) (none_released now (settled e) t is);
        drawn_out = λ e. all_here (through e);
        loaded =
            subst (λ (l : List Call). Loaded (MAX_LOADS * misses l) (s.loads w.source) (s.loads after.source) w.loads after.loads) (sym own_here)
            (subst (λ (x : F). Loaded (MAX_LOADS * misses answers.answers.calls) (s.loads w.source) (s.loads x) w.loads after.loads) (sym source)
            (subst (λ (x : F). Loaded (MAX_LOADS * misses answers.answers.calls) (s.loads x) (s.loads now.source) w.loads after.loads) seated.same.source
            (subst (λ (n : ℕ). Loaded (MAX_LOADS * misses answers.answers.calls) (s.loads start.source) (s.loads now.source) w.loads n) (sym loads)
            (subst (λ (n : ℕ). Loaded (MAX_LOADS * misses answers.answers.calls) (s.loads start.source) (s.loads now.source) n now.loads) seated.same.loads answers.answers.loaded))));
        loads_are =
            subst (λ (l : List Call). LoadsAreOf AllDone s.given s.reading l after.loads) (sym left) (subst (λ (n : ℕ). LoadsAreOf AllDone s.given s.reading (own_calls t) n) (sym loads)
            (loads_settled s.given s.reading AllDone (own_calls t) now.loads (loads_in ⊥ now ended.trail t is) (λ e. loads_in (Unit {0}) now (settled e) t is)));
      }

  leaves : (MayBreak : ℕ → Type 0) (MayWant : Type 0) (now : Worker F) (ended : AfterRounds s MayBreak MayWant start now) (o : Option SeatView) → now.seat ≡ o → BenchFits (s.library now.source) s.bench o → MayLeave s.bench.cache k now
  leaves MayBreak MayWant now ended None is fits = absurd fits
  leaves MayBreak MayWant now ended (Some t) is fits = record { seat = t; is = is; lock = fits.lock; number = number MayBreak MayWant now ended t is; idle = fits.idle }

  -- a seat that the bench fits is one that may be taken in
  pub may_leave : (MayBreak : ℕ → Type 0) (MayWant : Type 0) (now : Worker F) → AfterRounds s MayBreak MayWant start now → MayLeave s.bench.cache k now
  may_leave MayBreak MayWant now ended = leaves MayBreak MayWant now ended now.seat refl ended.kept.fits

-- a worker of a run in which no cache was made
pub unused : {F : Type 0} (library : F → Option FileTable) (faults loads : F → ℕ) (g : Setup) (reading : Reading) (number : ℕ) (w : Worker F) → IsFresh library g.library w → w.seat ≡ None
    → (MayBreak : ℕ → Type 0) (Whole : Type 0) → WorkerRan MayBreak Whole library faults loads g reading [] number w w
unused library faults loads g reading number w fresh none MayBreak Whole = record {
  seat = none;
  none = fresh.none;
  counter = fresh.counter;
  spare_pages = λ none. none;
  knows_library = fresh.knows_library;
  faults_rose = omega arith;
  keys = [];
  looked = inl (tt, subst (λ (ps : List ℕ). WholeLooks (finding g reading) (indexed_of g reading) g.sheet ps []) (sym fresh.pages) refl);
  answered = refl;
  weighed = tt;
  last = tt;
  whole = λ e. tt;
  drawn_out = λ e. subst (λ (ps : List ℕ). WholeLooks (finding g reading) (indexed_of g reading) g.sheet ps []) (sym fresh.pages) refl;
  loaded = record {
    loads = record { most = omega arith; never_falls = omega arith };
    counted = record { most = omega arith; never_falls = omega arith };
    same = λ low. omega arith;
  };
  loads_are = no_loads g reading Whole w.loads fresh.loads;
}
