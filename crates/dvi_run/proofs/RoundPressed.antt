-- A round that was drawn and pressed, after rounds that were written whole.
use Rattle.std.proofs.Common.{◌≡◌, ℕ, ◌+◌, ◌*◌, ◌<◌, ◌≤◌, Bool, List, ◌++◌, length, get_or, map, Contains, Option, sym, subst, ◌∙◌, add-one, arith}
use Rattle.std.specs.Prelude.{None}
use Rattle.page_index.specs.Document.{pages_begun}
use Rattle.page_draw.specs.Sheets.{IsDrawable}
use Rattle.page_draw.specs.Values.{DrawnValue, PageValue}
use Rattle.page_draw.specs.declared.stop.PageStop.TheVariants as draw
use Rattle.page_workers.specs.Handing.{HandedRound, TookEach}
use Rattle.page_workers.specs.Rounds.{HasBitmap}
use Rattle.page_workers.specs.declared.worker.PageResult.{PageResult}
use Rattle.page_workers.specs.declared.worker.Worker.{Worker}
use Rattle.dvi_run.specs.Pages.{AreValues}
use Rattle.dvi_run.specs.Endings.{EndingValue, EndsPages, Memory, Written, ending_at}
use Rattle.dvi_run.specs.Pressing.{drawn_in}
use Rattle.dvi_run.specs.Rounds.{MayBegin, Site, indexed_of}
use Rattle.dvi_run.specs.Stacks.{AllDrewNothing, WroteUpTo, WroteWhole}
use Rattle.dvi_run.specs.Tally.{TallyMatches}
use Rattle.dvi_run.specs.declared.pages.Press.{Press}
use Rattle.dvi_run.specs.declared.pages.WriteStop.{WriteStop}
use Rattle.dvi_run.specs.declared.pages.WriteStop.TheVariants as stop
use Rattle.dvi_run.specs.declared.tally.Tally.{Tally}
use Rattle.dvi_run.specs.Laws.{good}
use Rattle.dvi_run.proofs.PagesWritten.{IsWrittenTo, ends_at, ends_written, written_so}
use Rattle.dvi_run.proofs.Pressed.{AllPressed, Pressed, Takes, all_pressed}
use Rattle.dvi_run.proofs.ResultsToWrite.{ends_up_to, few_at_hand, good_whole, inside_hand, wrote_whole}
use Rattle.dvi_run.proofs.RoundsInProgress.{IsCount, RoundInProgress, SomeFailed, next_at_hand}
use Rattle.dvi_run.proofs.WorkersAfterRounds.{WorkersAfterRounds, over_here, over_rested, over_written}

-- what was pressed, where it is known how it stopped
pub pressed_as : (counted b : Bool) (old new : Option (List ℕ)) (P : Type 0) (Noted : List PageResult → Type 0) (rs : List PageResult) (t u : Tally) (x z : Option WriteStop) → x ≡ z → b ≡ counted → Pressed b old new P Noted rs t u x
    → Pressed counted old new P Noted rs t u z
pressed_as counted b old new P Noted rs t u x z stopped same pressed = subst (λ (c : Bool). Pressed c old new P Noted rs t u z) same (subst (λ (y : Option WriteStop). Pressed b old new P Noted rs t u y) stopped pressed)

module _ {F : Type 0} (s : Site F) (n : ℕ) (xs : List (Worker F)) (some : 1 ≤ n) (ready : (k : ℕ) (d : Worker F) → k < n → MayBegin s (get_or xs k d)) where
  -- the rounds before page `next` were drawn, and the last of them was written whole
  abbrev pub LastRound : List (Worker F) → ℕ → Type 0
  LastRound ws next = (done : ℕ) × (rs : List PageResult) × RoundInProgress s n xs ws next done rs × ((r : PageResult) → Contains rs r → HasBitmap r)

  abbrev pub WrittenSoFar : (old now : Option (List ℕ)) (counted : Bool) → Tally → (Are : List DrawnValue → Type 0) → Type 0
  WrittenSoFar old now counted t Are = IsWrittenTo s.given s.reading old now t.pages counted t.black Are

  -- what write_rounds says of how it ended
  abbrev pub Ends : (old new : Option (List ℕ)) (OutputFailed : Type 0) (counted : Bool) (Are : List DrawnValue → Type 0) → EndingValue → Tally → Type 0
  Ends old new OutputFailed counted Are e t = (values : List PageValue) × AreValues s.given s.reading values × EndsPages old new OutputFailed (Unit {0}) e s.reading values × TallyMatches counted Are old new t e values

  module _ (ws : List (Worker F)) (next : ℕ) (last : LastRound ws next) (old mid : Option (List ℕ)) (counted : Bool) (t : Tally) (Are : List DrawnValue → Type 0) (w : WrittenSoFar old mid counted t Are) (at : t.pages ≡ next) where
    full : last.0 + length last.1 ≡ next
    full = last.2.full last.3

    -- all rounds were written
    pub workers_written : next ≡ pages_begun s.reading → WorkersAfterRounds s n xs some ready ws Written t
    workers_written all = over_written s n xs some ready ws next last.0 last.1 t last.2 all last.3 at

    pub all_written : (Fails : Type 0) → next ≡ pages_begun s.reading → Ends old mid Fails counted Are Written t
    all_written Fails all = let e = ends_written s.given s.reading old mid t.pages counted t.black Are w t.noted (at ∙ all) in (map good w.pages, e.0, e.1, e.2)

    -- the next one wasn't begun
    pub workers_rested : (now : List (Worker F)) → ((k : ℕ) (d : Worker F) → k < n → (get_or now k d).counter ≡ None) → length ws ≡ n → AllDrewNothing ws now → WorkersAfterRounds s n xs some ready now Memory t
    workers_rested now counters long rest = let full = full in over_rested s n xs some ready ws now next last.0 last.1 t last.2 last.3 counters long rest (omega (arith, full, at))

    pub ends_rested : (new : Option (List ℕ)) (Fails : Type 0) → new ≡ mid → next < pages_begun s.reading → Ends old new Fails counted Are Memory t
    ends_rested new Fails same below =
        ends_at s.given s.reading old mid t.pages counted t.black Are w new (t.pages + 1) (add-one t.pages) (omega (arith, at, below)) t.noted ⊥ (Unit {0}) Fails (Unit {0}) (λ f. absurd f) (λ f. f) (stop.Draw draw.NoMemory) (tt, same)

    -- it was drawn
    module _ (count : ℕ) (sized : IsCount n next (pages_begun s.reading) count) (few : pages_begun s.reading ≤ 1000000) (now : List (Worker F)) (results : List PageResult)
        (drew : HandedRound s.library s.faults s.loads s.bench (indexed_of s.given s.reading) s.given.sheet next count ws now results) (long : length ws ≡ n) (counters : (k : ℕ) (d : Worker F) → k < n → (get_or now k d).counter ≡ None) where
      pub hand : RoundInProgress s n xs now (next + count) t.pages results
      hand = next_at_hand s n xs ready ws next last.0 count last.1 last.2 last.3 now results drew long counters sized t.pages (at ∙ sym full)

      within : t.pages + length results ≤ pages_begun s.reading
      within = let reach = hand.reach in let inside = sized.inside in omega (arith, reach, inside)

      pub pressed_so : {O N : Type 0} (written : O → Option (List ℕ)) (faults : O → ℕ) (noted : N → Option (List ℕ)) (failures : N → ℕ) (sheet : IsDrawable s.given.sheet) (p : Press N) (o : O) (q : Press N) (v : O) → p.tally ≡ t → p.stopped ≡ None
          → t.black ≤ t.pages * (20000 * 20000) → TookEach (Takes written faults noted failures) results p o q v → AllPressed written faults noted failures results p o q v
      pressed_so written faults noted failures sheet p o q v is on dark took =
          let inside = within in
          all_pressed written faults noted failures results p o q v on (subst (λ (u : Tally). u.pages + length results ≤ 1000000) (sym is) (omega (arith, inside, few)))
          (subst (λ (u : Tally). u.black ≤ u.pages * (20000 * 20000)) (sym is) dark) (few_at_hand s.given s.reading (SomeFailed s n xs now) t.pages results sheet hand.held) took

      module _ (new : Option (List ℕ)) (u : Tally) where
        -- and written whole
        module _ (wrote : WroteWhole counted mid new results t u) where
          good_now : (r : PageResult) → Contains results r → HasBitmap r
          good_now = good_whole s.given s.reading (SomeFailed s n xs now) old counted results mid new t u wrote

          pub last_now : LastRound now (next + count)
          last_now = (t.pages, results, hand, good_now)

          pub written_now : (Next : List DrawnValue → Type 0) → Next (w.pages ++ drawn_in results) → WrittenSoFar old new counted u Next
          written_now Next are =
              wrote_whole s.given s.reading (SomeFailed s n xs now) old counted results mid new t u Next hand.held wrote
              (written_so s.given s.reading old mid t.pages counted t.black Are (λ pages. Next (pages ++ drawn_in results)) w are)

          pub at_now : u.pages ≡ next + count
          at_now = wrote.pages_are ∙ hand.full good_now

        -- or up to one that wasn't
        module _ (P : Type 0) (why : WriteStop) (up : WroteUpTo counted mid new P results t u why) where
          pub workers_here : WorkersAfterRounds s n xs some ready now (ending_at (u.pages + 1) why) u
          workers_here = over_here s n xs some ready now (next + count) results t u counted mid new P why hand up

          pub below_all : u.pages < pages_begun s.reading
          below_all =
              let i = inside_hand s.given s.reading (SomeFailed s n xs now) old counted results mid new t u why P hand.held up in
              let inside = within in
              omega (arith, i.1, inside)

          pub ends_here : (Fails : Type 0) → (P → Fails) → (Next : List DrawnValue → Type 0) → Next (w.pages ++ drawn_in up.written) → Ends old new Fails counted Next (ending_at (u.pages + 1) why) u
          ends_here Fails fails Next are =
              ends_up_to s.given s.reading (SomeFailed s n xs now) old counted results mid new t u why P hand.held up Fails fails Next
              (written_so s.given s.reading old mid t.pages counted t.black Are (λ pages. Next (pages ++ drawn_in up.written)) w are) below_all
