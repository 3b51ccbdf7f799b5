-- Pages that a worker drew, one after another.
use Rattle.std.proofs.Common.{◌≡◌, inl, inr, ℕ, ◌+◌, ◌≤◌, List, [], ◌∷◌, ◌++◌, false, refl, sym, ap, subst, ◌∙◌, arith, append_assoc, append-nil}
use Rattle.std.specs.Prelude.{◌^◌, All, IsErr, IsErrOf, Option, Result, Ok, Err, is_ok}
use Rattle.std.proofs.lemmas.List.Elements.{All-tail, Contains-append_right}
use Rattle.outside.specs.Counts.{HasCause}
use Rattle.outside.specs.Library.{FileTable}
use Rattle.font_decode.specs.Decoding.{IsFontOf}
use Rattle.font_decode.specs.Desks.{TrailGrew}
use Rattle.turn_lock.specs.Seats.{SeatView}
use Rattle.page_index.specs.Pages.{Indexed}
use Rattle.page_draw.specs.Drawn.{IsWhole}
use Rattle.page_draw.specs.declared.sheet.Sheet.{Sheet}
use Rattle.page_draw.specs.declared.stop.PageStop.TheVariants.{SourceFault}
use Rattle.page_workers.specs.declared.bench.Bench.{Bench}
use Rattle.page_workers.specs.declared.worker.PageResult.{PageResult}
use Rattle.page_workers.specs.declared.worker.Worker.{Worker}
use Rattle.page_workers.specs.Seats.{library_at, units_at, asked_at, trail_at, room_at}
use Rattle.page_workers.proofs.NothingDrawn.{rested_self, rests}
use Rattle.page_workers.specs.Rounds.{IsOutcome, DrewNothing, DrewPage, Drew, BitmapsToLast, LacksBitmap, HasBitmap, pages_of, trail_of}

module _ {F : Type 0} (library : F → Option FileTable) (faults loads : F → ℕ) (bench : Bench) (indexed : Indexed) (sheet : Sheet) where
  abbrev Page : PageResult → Worker F → Worker F → Type 0
  Page r a b = DrewPage library faults loads bench indexed sheet r a b

  abbrev Pages : List PageResult → Worker F → Worker F → Type 0
  Pages rs a b = Drew library faults loads bench indexed sheet rs a b

  page_after_rest : (r : PageResult) (a b c : Worker F) → DrewNothing a b → Page r b c → Page r a c
  page_after_rest r a b c rest d = record {
    result = d.result ∙ ap (λ (l : List PageResult). l ++ r ∷ []) rest.results;
    pages = d.pages ∙ ap (λ (l : List ℕ). l ++ r.page ∷ []) rest.pages;
    value = subst (λ (s : Option SeatView). IsOutcome (IsFontOf (library_at s) (units_at s)) indexed sheet r.page r.outcome (asked_at s) (asked_at c.seat)) rest.seat d.value;
    fits = d.fits;
    room = subst (λ (s : Option SeatView). room_at a.loads s ≤ room_at c.loads c.seat + 2 ^ 24) rest.seat
        (subst (λ (n : ℕ). room_at n b.seat ≤ room_at c.loads c.seat + 2 ^ 24) rest.loads d.room);
    same_library = d.same_library ∙ ap library_at rest.seat;
    same_units = d.same_units ∙ ap units_at rest.seat;
    cause = subst (λ (x : F). HasCause (faults x) (faults c.source) (IsErrOf r.outcome SourceFault)) rest.source d.cause;
    trail = subst (λ (s : Option SeatView). TrailGrew (IsWhole r.outcome) (asked_at s) (asked_at c.seat) (trail_at (loads a.source) a.loads s) (trail_of loads c)) rest.seat
        (subst (λ (n : ℕ). TrailGrew (IsWhole r.outcome) (asked_at b.seat) (asked_at c.seat) (trail_at (loads a.source) n b.seat) (trail_of loads c)) rest.loads
        (subst (λ (x : F). TrailGrew (IsWhole r.outcome) (asked_at b.seat) (asked_at c.seat) (trail_at (loads x) b.loads b.seat) (trail_of loads c)) rest.source d.trail));
  }

  pub drew_after_rest : (rs : List PageResult) (a b c : Worker F) → DrewNothing a b → Pages rs b c → Pages rs a c
  drew_after_rest [] a b c rest d = rests a b c rest d
  drew_after_rest (r ∷ rs) a b c rest d = (d.0, page_after_rest r a b d.0 rest d.1, d.2)

  pub drew_before_rest : (rs : List PageResult) (a b c : Worker F) → Pages rs a b → DrewNothing b c → Pages rs a c
  drew_before_rest [] a b c d rest = rests a b c d rest
  drew_before_rest (r ∷ rs) a b c d rest = (d.0, d.1, drew_before_rest rs d.0 b c d.2 rest)

  -- one page more
  pub drew_more : (rs : List PageResult) (r : PageResult) (a b c : Worker F) → Pages rs a b → Page r b c → Pages (rs ++ r ∷ []) a c
  drew_more [] r a b c d page = (c, page_after_rest r a b c d page, rested_self c)
  drew_more (x ∷ rs) r a b c d page = (d.0, d.1, drew_more rs r d.0 b c d.2 page)

  -- the results and pages of the worker are those that it drew
  pub drew_results : (rs : List PageResult) (a b : Worker F) → Pages rs a b → b.results.items ≡ a.results.items ++ rs
  drew_results [] a b d = d.results ∙ sym (append-nil a.results.items)
  drew_results (r ∷ rs) a b d = drew_results rs d.0 b d.2 ∙ (ap (λ (l : List PageResult). l ++ rs) d.1.result ∙ append_assoc a.results.items (r ∷ []) rs)

  pub drew_pages : (rs : List PageResult) (a b : Worker F) → Pages rs a b → b.pages.items ≡ a.pages.items ++ pages_of rs
  drew_pages [] a b d = d.pages ∙ sym (append-nil a.pages.items)
  drew_pages (r ∷ rs) a b d = drew_pages rs d.0 b d.2 ∙ (ap (λ (l : List ℕ). l ++ pages_of rs) d.1.pages ∙ append_assoc a.pages.items (r.page ∷ []) (pages_of rs))

-- ---- bitmaps

pub bitmaps_all : (rs : List PageResult) → All HasBitmap rs → BitmapsToLast rs
bitmaps_all [] all = tt
bitmaps_all (r ∷ rs) all = inr (all 0 r (omega arith), bitmaps_all rs (All-tail HasBitmap r rs all))

pub bitmaps_before : (rs : List PageResult) (r : PageResult) → All HasBitmap rs → BitmapsToLast (rs ++ r ∷ [])
bitmaps_before [] r all = inl refl
bitmaps_before (x ∷ rs) r all = inr (all 0 x (omega arith), bitmaps_before rs r (All-tail HasBitmap x rs all))

err_of : {A E : Type 0} (r : Result A E) → is_ok r ≡ false → IsErr r
err_of (Ok x) e = absurd cc
err_of (Err x) e = refl

pub lacks_last : (rs : List PageResult) (r : PageResult) → is_ok r.outcome ≡ false → LacksBitmap (rs ++ r ∷ [])
lacks_last rs r none = (r, Contains-append_right rs (r ∷ []) r (0, omega arith, refl), err_of r.outcome none)

pub pages_of-more : (rs : List PageResult) (r : PageResult) → pages_of (rs ++ r ∷ []) ≡ pages_of rs ++ r.page ∷ []
pages_of-more [] r = refl
pages_of-more (x ∷ rs) r = ap (λ (l : List ℕ). x.page ∷ l) (pages_of-more rs r)
