-- Workers through the rounds.
use Rattle.std.proofs.Common.{length, drop, ◌≡◌, ◌⊎◌, inl, inr, ℕ, ◌+◌, ◌<◌, ◌≤◌, List, [], ◌∷◌, ◌++◌, Option, Result, Ok, Err, refl, sym, ap, subst, ◌∙◌, arith}
use Rattle.std.specs.Prelude.{◌^◌, ◌*◌, Contains, IsErrOf, None}
use Rattle.std.proofs.lemmas.List.Elements.{Contains-append_right}
use Rattle.outside.specs.Counts.{Rose}
use Rattle.outside.specs.Library.{FileTable}
use Rattle.outside.proofs.Growth.{rose_later}
use Rattle.pixel_round.specs.declared.units.Units.{Units}
use Rattle.turn_lock.specs.Seats.{SeatView}
use Rattle.font_decode.specs.Decoding.{IsFontOf}
use Rattle.font_decode.specs.Desks.{TrailGrew}
use Rattle.font_decode.proofs.Trails.{trail_none, trail_more, trail_as}
use Rattle.page_draw.specs.Drawn.{IsWhole}
use Rattle.page_draw.specs.declared.stop.PageStop.{PageStop}
use Rattle.page_draw.specs.declared.stop.PageStop.TheVariants as draw
use Rattle.page_draw.specs.declared.drawn.Drawn as page
use Rattle.page_workers.specs.declared.worker.PageResult.{PageResult}
use Rattle.page_workers.specs.declared.worker.Worker.{Worker}
use Rattle.page_workers.specs.Seats.{BenchFits, asked_at, library_at, units_at, room_at, trail_at}
use Rattle.page_workers.specs.Rounds.{BitmapsToLast, Drew, DrewPage, IsOutcome, DrewNothing, trail_of}
use Rattle.dvi_run.specs.Pages.{finding}
use Rattle.page_index.specs.Pages.{Indexed}
use Rattle.page_draw.specs.Members.{Finding}
use Rattle.dvi_run.specs.Looked.{WholeLooks, BrokenLooks}
use Rattle.page_workers.specs.Handing.{WasCleared}
use Rattle.outside.specs.declared.keys.FontKey.{FontKey}
use Rattle.page_index.specs.Document.{pages_begun}
use Rattle.dvi_run.specs.Shares.{pages_since}
use Rattle.dvi_run.specs.Rounds.{Site, IsSteady, Trails, AllLooked, LastBroke, WasCut, BetweenRounds, AfterRounds, MayBegin, FailedAt, IsOutcomeOf, keys_of, keys_since, indexed_of}
use Rattle.dvi_run.proofs.Looks.{broken_as, keys_are}
use Rattle.dvi_run.proofs.Since.{grew_more, more_since, none_since, still_since}
use Rattle.dvi_run.proofs.PagesDrawn.{CutAmong, LooksTo, NeverCut, bitmap_sound, bitmap_whole, cons_cases, keys_by, looks_to, value_of}

module _ {F : Type 0} (s : Site F) where
  -- ---- a worker whose results alone change

  kept_on : (start a b : Worker F) → b.source ≡ a.source → b.seat ≡ a.seat → IsSteady s start a → IsSteady s start b
  kept_on start a b source seat k = record {
    fits = subst (λ (x : F). BenchFits (s.library x) s.bench b.seat) (sym source)
        (subst (λ (o : Option SeatView). BenchFits (s.library a.source) s.bench o) (sym seat) k.fits);
    library = ap library_at seat ∙ k.library;
    units = ap units_at seat ∙ k.units;
    faults = subst (λ (x : F). s.faults start.source ≤ s.faults x) (sym source) k.faults;
  }

  trails_on : (W : Type 0) (start a b : Worker F) → b.source ≡ a.source → b.seat ≡ a.seat → b.loads ≡ a.loads → Trails s W start a → Trails s W start b
  trails_on W start a b source seat loads t =
      subst (λ (x : F). TrailGrew W (asked_at start.seat) (asked_at b.seat) (trail_of s.loads start) (trail_at (s.loads x) b.loads b.seat)) (sym source)
      (subst (λ (n : ℕ). TrailGrew W (asked_at start.seat) (asked_at b.seat) (trail_of s.loads start) (trail_at (s.loads a.source) n b.seat)) (sym loads)
      (subst (λ (o : Option SeatView). TrailGrew W (asked_at start.seat) (asked_at o) (trail_of s.loads start) (trail_at (s.loads a.source) a.loads o)) (sym seat) t))

  abbrev Finds : Finding
  Finds = finding s.given s.reading

  abbrev indexed : Indexed
  indexed = indexed_of s.given s.reading

  -- all look-ups, and no claim given up since the start; or a page that was broken off
  abbrev EndsLooked : (ℕ → Type 0) → Worker F → Worker F → Type 0
  EndsLooked Cut start w = (Trails s (Unit {0}) start w × AllLooked s start w) ⊎ LastBroke s Cut start w

  same_pages : (start a b : Worker F) → b.pages.items ≡ a.pages.items → pages_since start b ≡ pages_since start a
  same_pages start a b pages = ap (drop (length start.pages.items)) pages

  same_keys : (start a b : Worker F) → b.seat ≡ a.seat → keys_since start b ≡ keys_since start a
  same_keys start a b seat = ap (λ (o : Option SeatView). drop (length (keys_of start.seat)) (keys_of o)) seat

  whole_on : (start a b : Worker F) → b.seat ≡ a.seat → b.pages.items ≡ a.pages.items → AllLooked s start a → AllLooked s start b
  whole_on start a b seat pages w = subst (λ (ps : List ℕ). WholeLooks Finds indexed s.given.sheet ps (keys_since start b)) (sym (same_pages start a b pages))
      (subst (λ (ks : List FontKey). WholeLooks Finds indexed s.given.sheet (pages_since start a) ks) (sym (same_keys start a b seat)) w)

  looked_on : (Cut : ℕ → Type 0) (start a b : Worker F) → b.source ≡ a.source → b.seat ≡ a.seat → b.loads ≡ a.loads → b.pages.items ≡ a.pages.items → EndsLooked Cut start a → EndsLooked Cut start b
  looked_on Cut start a b source seat loads pages looked = elim looked [
    | inl w ↦ inl (trails_on (Unit {0}) start a b source seat loads w.0, whole_on start a b seat pages w.1)
    | inr w ↦ inr (subst (λ (ps : List ℕ). BrokenLooks Cut Finds indexed s.given.sheet ps (keys_since start b)) (sym (same_pages start a b pages))
        (subst (λ (ks : List FontKey). BrokenLooks Cut Finds indexed s.given.sheet (pages_since start a) ks) (sym (same_keys start a b seat)) w))
  ]

  looked_as : (Cut MayBreak : ℕ → Type 0) (start now : Worker F) → ((p : ℕ) → Cut p → MayBreak p) → EndsLooked Cut start now → EndsLooked MayBreak start now
  looked_as Cut MayBreak start now f looked = elim looked [
    | inl w ↦ inl w
    | inr b ↦ inr (broken_as Cut MayBreak Finds indexed s.given.sheet (pages_since start now) (keys_since start now) f b)
  ]

  -- ---- a worker that drew some pages, of which only the last may have been cut off

  pub record Drawn (Cut : ℕ → Type 0) (start now : Worker F) : Type 0 where
    pub kept : IsSteady s start now
    pub pages : now.pages.items ≡ start.pages.items ++ pages_since start now
    pub keys : keys_of now.seat ≡ keys_of start.seat ++ keys_since start now
    pub trail : Trails s ⊥ start now
    pub looked : EndsLooked Cut start now

  -- where none can have been
  through : (Cut : ℕ → Type 0) (start now : Worker F) → ((p : ℕ) → Cut p → ⊥) → Drawn Cut start now → Trails s (Unit {0}) start now × AllLooked s start now
  through Cut start now none d = elim d.looked [
    | inl w ↦ w
    | inr b ↦ absurd (none b.page b.may_break)
  ]

  drawn_on : (Cut : ℕ → Type 0) (start a b : Worker F) → b.source ≡ a.source → b.seat ≡ a.seat → b.loads ≡ a.loads → b.pages.items ≡ a.pages.items → Drawn Cut start a → Drawn Cut start b
  drawn_on Cut start a b source seat loads pages d = record {
    kept = kept_on start a b source seat d.kept;
    pages = pages ∙ d.pages ∙ ap (λ (l : List ℕ). start.pages.items ++ l) (sym (same_pages start a b pages));
    keys = ap keys_of seat ∙ d.keys ∙ ap (λ (l : List FontKey). keys_of start.seat ++ l) (sym (same_keys start a b seat));
    trail = trails_on ⊥ start a b source seat loads d.trail;
    looked = looked_on Cut start a b source seat loads pages d.looked;
  }

  drawn_as : (Cut MayBreak : ℕ → Type 0) (start now : Worker F) → ((p : ℕ) → Cut p → MayBreak p) → Drawn Cut start now → Drawn MayBreak start now
  drawn_as Cut MayBreak start now f d = record {
    kept = d.kept;
    pages = d.pages;
    keys = d.keys;
    trail = d.trail;
    looked = looked_as Cut MayBreak start now f d.looked;
  }

  -- what holds of a result of the worker
  pub record Came (start now : Worker F) (r : PageResult) : Type 0 where
    pub value : IsOutcomeOf s.given s.reading r.page r.outcome
    pub failed : IsErrOf r.outcome draw.SourceFault → FailedAt s.faults (r.page + 1) start now

  failed_on : (page : ℕ) (start a b : Worker F) → b.source ≡ a.source → b.pages.items ≡ a.pages.items → FailedAt s.faults page start a → FailedAt s.faults page start b
  failed_on page start a b source pages f = record {
    rose = subst (λ (x : F). Rose (s.faults start.source) (s.faults x)) (sym source) f.rose;
    number = f.number;
    is = f.is;
    drew = (f.drew.0, pages ∙ f.drew.1);
  }

  came_on : (start a b : Worker F) (r : PageResult) → b.source ≡ a.source → b.pages.items ≡ a.pages.items → Came start a r → Came start b r
  came_on start a b r source pages c = record { value = c.value; failed = λ f. failed_on (r.page + 1) start a b source pages (c.failed f) }

  -- ---- one page

  -- the page was cut off, as this came of it
  abbrev CutBy : ℕ → Result page.Drawn PageStop → ℕ → Type 0
  CutBy i outcome p = (p ≡ i) × (IsWhole outcome → ⊥)

  either_looked : (i : ℕ) (outcome : Result page.Drawn PageStop) (start w : Worker F) → Trails s (IsWhole outcome) start w → LooksTo i outcome Finds indexed s.given (pages_since start w) (keys_since start w)
      → EndsLooked (CutBy i outcome) start w
  either_looked i (Ok page) start w t l = inl (t, l)
  either_looked i (Err (draw.Fault fault at)) start w t l = inl (t, l)
  either_looked i (Err draw.SourceFault) start w t l =
      inr (broken_as (λ p. p ≡ i) (CutBy i (Err draw.SourceFault)) Finds indexed s.given.sheet (pages_since start w) (keys_since start w) (λ p is. (is, λ whole. whole)) l)
  either_looked i (Err draw.NoMemory) start w t l =
      inr (broken_as (λ p. p ≡ i) (CutBy i (Err draw.NoMemory)) Finds indexed s.given.sheet (pages_since start w) (keys_since start w) (λ p is. (is, λ whole. whole)) l)

  module _ (start : Worker F) (m : MayBegin s start) where
    module _ (old new : Worker F) (r : PageResult) (st : Drawn NeverCut start old) (d : DrewPage s.library s.faults s.loads s.bench (indexed_of s.given s.reading) s.given.sheet r old new) where
      finds : IsOutcome (finding s.given s.reading) (indexed_of s.given s.reading) s.given.sheet r.page r.outcome (asked_at old.seat) (asked_at new.seat)
      finds =
          subst (λ (u : Option Units). IsOutcome (IsFontOf s.given.library u) (indexed_of s.given s.reading) s.given.sheet r.page r.outcome (asked_at old.seat) (asked_at new.seat)) (st.kept.units ∙ m.units)
          (subst (λ (l : Option FileTable). IsOutcome (IsFontOf l (units_at old.seat)) (indexed_of s.given s.reading) s.given.sheet r.page r.outcome (asked_at old.seat) (asked_at new.seat))
          (st.kept.library ∙ m.library) d.value)

      so_far : Trails s (Unit {0}) start old × AllLooked s start old
      so_far = through NeverCut start old (λ p cut. cut) st

      trail_so : Trails s (IsWhole r.outcome) start new
      trail_so = trail_more (IsWhole r.outcome) (asked_at start.seat) (asked_at old.seat) (asked_at new.seat) (trail_of s.loads start) (trail_of s.loads old) (trail_of s.loads new) so_far.0 d.trail

      looked_so : LooksTo r.page r.outcome Finds indexed s.given (pages_since start new) (keys_since start new)
      looked_so =
          let e = keys_are (s.library old.source) s.bench old.seat st.kept.fits in
          let h = keys_are (s.library new.source) s.bench new.seat d.fits in
          looks_to s.given s.reading r.page r.outcome old.seat new.seat (pages_since start old) (pages_since start new) (keys_since start old) (keys_since start new) e h finds so_far.1
          (more_since start.pages.items old.pages.items new.pages.items (r.page ∷ []) st.pages d.pages) (λ more is. more_since (keys_of start.seat) (keys_of old.seat) (keys_of new.seat) more st.keys is)

      keys_more : (more : List FontKey) × (keys_of new.seat ≡ keys_of old.seat ++ more)
      keys_more =
          keys_by s.given s.reading r.page r.outcome old.seat new.seat (keys_are (s.library old.source) s.bench old.seat st.kept.fits) (keys_are (s.library new.source) s.bench new.seat d.fits) finds

      page_drawn : Drawn (CutBy r.page r.outcome) start new
      page_drawn = record {
        kept = record {
          fits = d.fits;
          library = d.same_library ∙ st.kept.library;
          units = d.same_units ∙ st.kept.units;
          faults = omega (arith, st.kept.faults, d.cause.never_falls);
        };
        pages = grew_more start.pages.items old.pages.items new.pages.items (r.page ∷ []) st.pages d.pages;
        keys = grew_more (keys_of start.seat) (keys_of old.seat) (keys_of new.seat) keys_more.0 st.keys keys_more.1;
        trail = trail_as ⊥ (IsWhole r.outcome) (asked_at start.seat) (asked_at new.seat) (trail_of s.loads start) (trail_of s.loads new) (λ f. absurd f) trail_so;
        looked = either_looked r.page r.outcome start new trail_so looked_so;
      }

      page_came : Came start new r
      page_came = record {
        value = value_of s.given s.reading r.page r.outcome (asked_at old.seat) (asked_at new.seat) finds;
        failed = λ failed. record {
          rose = rose_later (s.faults start.source) (s.faults old.source) (s.faults new.source) st.kept.faults (d.cause.rose failed) d.cause.never_falls;
          number = r.page;
          is = refl;
          drew = (old.pages.items, d.pages);
        };
      }

    -- ---- some pages, one after another

    abbrev Goes : List PageResult → Worker F → Worker F → Type 0
    Goes rs old new = Drew s.library s.faults s.loads s.bench (indexed_of s.given s.reading) s.given.sheet rs old new

    pub drawn_through : (rs : List PageResult) (old new : Worker F) → Drawn NeverCut start old → Goes rs old new → BitmapsToLast rs
        → Drawn (CutAmong rs) start new × ((r : PageResult) → Contains rs r → Came start new r)
    drawn_through [] old new st d stopped = (
      drawn_as NeverCut (CutAmong []) start new (λ p cut. absurd cut) (drawn_on NeverCut start old new d.source d.seat d.loads d.pages st),
      λ r h. let less : h.0 < 0 = h.1 in absurd (omega arith),
    )
    drawn_through (r ∷ rs) old new st d (inl last) =
        let between = d.0 in
        let rest : DrewNothing between new = subst (λ (l : List PageResult). Goes l between new) last d.2 in
        let here = page_drawn old between r st d.1 in (
          drawn_as (CutBy r.page r.outcome) (CutAmong (r ∷ rs)) start new (λ p cut. (r, (0, omega arith, refl), sym cut.0, cut.1))
              (drawn_on (CutBy r.page r.outcome) start between new rest.source rest.seat rest.loads rest.pages here),
          λ q h. elim (cons_cases r rs q h) [
            | inl same ↦ subst (λ (x : PageResult). Came start new x) same (came_on start between new r rest.source rest.pages (page_came old between r st d.1))
            | inr other ↦ let has : Contains [] q = subst (λ (l : List PageResult). Contains l q) last other in let less : has.0 < 0 = has.1 in absurd (omega arith)
          ],
        )
    drawn_through (r ∷ rs) old new st d (inr more) =
        let between = d.0 in
        let whole = bitmap_whole r.outcome more.0 in
        let here = drawn_as (CutBy r.page r.outcome) NeverCut start between (λ p cut. cut.1 whole) (page_drawn old between r st d.1) in
        let rest = drawn_through rs between new here d.2 more.1 in (
          drawn_as (CutAmong rs) (CutAmong (r ∷ rs)) start new (λ p cut. (cut.0, Contains-append_right (r ∷ []) rs cut.0 cut.1, cut.2, cut.3)) rest.0,
          λ q h. elim (cons_cases r rs q h) [
            | inl same ↦ subst (λ (x : PageResult). Came start new x) same (record { value = (page_came old between r st d.1).value; failed = λ failed. absurd (bitmap_sound r.outcome more.0 failed) })
            | inr other ↦ rest.1 q other
          ],
        )

    pub room_through : (rs : List PageResult) (old new : Worker F) → Goes rs old new → room_at old.loads old.seat ≤ room_at new.loads new.seat + length rs * 2 ^ 24
    room_through [] old new d =
        let same : room_at new.loads new.seat ≡ room_at old.loads old.seat = ap (λ (c : ℕ). room_at c new.seat) d.loads ∙ ap (room_at old.loads) d.seat in omega (arith, same)
    room_through (r ∷ rs) old new d = let here = d.1.room in let rest = room_through rs d.0 new d.2 in omega (arith, here, rest)

  -- ---- between rounds

  -- only the last of the worker's pages may have been cut off; it has no result any more
  pub record Stood (Cut : ℕ → Type 0) (start now : Worker F) : Type 0 where
    pub drawn : Drawn Cut start now
    pub none : now.results.items ≡ []
    pub counter : now.counter ≡ None

  pub begins : (w : Worker F) → MayBegin s w → Stood NeverCut w w
  begins w m =
      let whole : AllLooked s w w = subst (λ (ps : List ℕ). WholeLooks Finds indexed s.given.sheet ps (keys_since w w)) (sym (none_since w.pages.items)) (none_since (keys_of w.seat)) in
      record {
        drawn = record {
          kept = record { fits = m.fits; library = refl; units = refl; faults = omega arith };
          pages = still_since w.pages.items;
          keys = still_since (keys_of w.seat);
          trail = trail_none ⊥ (asked_at w.seat) (trail_of s.loads w);
          looked = inl (trail_none (Unit {0}) (asked_at w.seat) (trail_of s.loads w), whole);
        };
        none = m.none;
        counter = m.counter;
      }

  pub stood_as : (Cut MayBreak : ℕ → Type 0) (start now : Worker F) → ((p : ℕ) → Cut p → MayBreak p) → Stood Cut start now → Stood MayBreak start now
  stood_as Cut MayBreak start now f st = record { drawn = drawn_as Cut MayBreak start now f st.drawn; none = st.none; counter = st.counter }

  pub stood_rest : (Cut : ℕ → Type 0) (start old new : Worker F) → DrewNothing old new → new.counter ≡ None → Stood Cut start old → Stood Cut start new
  stood_rest Cut start old new r counter st = record {
    drawn = drawn_on Cut start old new r.source r.seat r.loads r.pages st.drawn;
    none = r.results ∙ st.none;
    counter = counter;
  }

  pub settles : (Cut : ℕ → Type 0) (start now : Worker F) → ((p : ℕ) → Cut p → ⊥) → Stood Cut start now → BetweenRounds s start now
  settles Cut start now none st =
      let w = through Cut start now none st.drawn in
      record {
        kept = st.drawn.kept;
        none = st.none;
        counter = st.counter;
        trail = w.0;
        looked = w.1;
      }

  pub ends : (Cut MayBreak : ℕ → Type 0) (MayWant : Type 0) (start now : Worker F) (next : ℕ) → next ≤ pages_begun s.reading → room_at start.loads start.seat ≤ room_at now.loads now.seat + next * 2 ^ 24
      → ((p : ℕ) → Cut p → MayBreak p × WasCut s MayWant start now) → Stood Cut start now → AfterRounds s MayBreak MayWant start now
  ends Cut MayBreak MayWant start now next few room f st = record {
    kept = st.drawn.kept;
    none = st.none;
    counter = st.counter;
    room = omega (arith, few, room);
    pages = st.drawn.pages;
    keys = st.drawn.keys;
    trail = st.drawn.trail;
    looked = looked_as Cut (λ p. MayBreak p × WasCut s MayWant start now) start now f st.drawn.looked;
  }

  -- a round more, whose results were taken out
  module _ (start old mid new : Worker F) (m : MayBegin s start) (rs : List PageResult) (answers : Goes start m rs old mid) (stopped : BitmapsToLast rs) (cleared : WasCleared mid new) where
    pub stood_on : (Cut : ℕ → Type 0) → ((p : ℕ) → Cut p → ⊥) → new.counter ≡ None → Stood Cut start old → Stood (CutAmong rs) start new
    stood_on Cut none counter st =
        let before = drawn_as Cut NeverCut start old none st.drawn in
        let through = drawn_through start m rs old mid before answers stopped in
        record {
          drawn = drawn_on (CutAmong rs) start mid new cleared.same.source cleared.same.seat cleared.same.loads cleared.same.pages through.0;
          none = cleared.none;
          counter = counter;
        }

    pub came_so : (Cut : ℕ → Type 0) → ((p : ℕ) → Cut p → ⊥) → Stood Cut start old → (r : PageResult) → Contains rs r → Came start new r
    came_so Cut none st r h =
        let before = drawn_as Cut NeverCut start old none st.drawn in
        let through = drawn_through start m rs old mid before answers stopped in
        came_on start mid new r cleared.same.source cleared.same.pages (through.1 r h)

    pub room_so : room_at old.loads old.seat ≤ room_at new.loads new.seat + length rs * 2 ^ 24
    room_so =
        let mid_room = room_through start m rs old mid answers in
        let same : room_at new.loads new.seat ≡ room_at mid.loads mid.seat = ap (λ (c : ℕ). room_at c new.seat) cleared.same.loads ∙ ap (room_at mid.loads) cleared.same.seat in
        omega (arith, mid_room, same)
