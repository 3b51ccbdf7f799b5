-- What the press wrote and noted of some results.
use Rattle.std.proofs.Common.{◌≡◌, ℕ, suc, ◌+◌, ◌*◌, ◌≤◌, Bool, List, [], ◌∷◌, ◌++◌, length, Option, Result, Ok, Err, refl, sym, ap, subst, ◌∙◌, arith}
use Rattle.std.specs.Prelude.{All, None, Some}
use Rattle.std.proofs.lemmas.List.Elements.{All-tail}
use Rattle.outside.specs.Counts.{Rose}
use Rattle.outside.proofs.Growth.{rose_later}
use Rattle.page_draw.specs.Values.{value_of_drawn}
use Rattle.page_draw.specs.declared.drawn.Drawn.{Drawn}
use Rattle.page_draw.specs.declared.stop.PageStop.{PageStop}
use Rattle.page_workers.specs.Handing.{TookEach}
use Rattle.page_workers.specs.declared.worker.PageResult.{PageResult}
use Rattle.dvi_run.specs.Lines.{lack_lines, lacks_from}
use Rattle.dvi_run.specs.Noted.{TookAfter}
use Rattle.dvi_run.specs.Outside.{change_of}
use Rattle.dvi_run.specs.Pressing.{TookBy, TookPage, drawn_in, lacks_in, with_outcome}
use Rattle.dvi_run.specs.Rounds.{WroteOutcome}
use Rattle.dvi_run.specs.Stacks.{HasFewDots, WroteUpTo, WroteWhole}
use Rattle.dvi_run.specs.declared.pages.Press.{Press}
use Rattle.dvi_run.specs.declared.pages.WriteStop.{WriteStop}
use Rattle.dvi_run.specs.declared.tally.Tally.{Tally}
use Rattle.dvi_run.proofs.Noting.{took_as, took_still, took_twice}
use Rattle.dvi_run.proofs.StackWritten.{few_in, wrote_err}

-- all results were written, or those before one that wasn't; and they were noted
abbrev pub Pressed : (counted : Bool) (old new : Option (List ℕ)) (OutputFails : Type 0) (Noted : List PageResult → Type 0) → List PageResult → (before after : Tally) → Option WriteStop → Type 0
Pressed counted old new OutputFails Noted rs t u None = WroteWhole counted old new rs t u × Noted rs
Pressed counted old new OutputFails Noted rs t u (Some why) = (up : WroteUpTo counted old new OutputFails rs t u why) × Noted up.written

none_pressed : (counted : Bool) (old : Option (List ℕ)) (t : Tally) → WroteWhole counted old old [] t t
none_pressed counted old t = record { black = 0; wrote = (refl, refl); pages_are = omega arith; black_is = omega arith }

-- the lines of one page more at the front
lines_more : (counted : Bool) (old new : Option (List ℕ)) (here page : ℕ) (outcome : Result Drawn PageStop) (rs : List PageResult) → WroteOutcome counted old new ⊥ outcome (Ok here)
    → lacks_from page (with_outcome outcome (drawn_in rs)) ≡ lack_lines page (lacks_in outcome) ++ lacks_from (page + 1) (drawn_in rs)
lines_more counted old new here page (Ok drawn) rs wrote =
    let next : suc page ≡ page + 1 = omega arith in
    ap (λ (n : ℕ). lack_lines page (value_of_drawn drawn).lacks ++ lacks_from n (drawn_in rs)) next
lines_more counted old new here page (Err reason) rs wrote = absurd wrote

module _ {O N : Type 0} (written : O → Option (List ℕ)) (faults : O → ℕ) (noted : N → Option (List ℕ)) (failures : N → ℕ) where
  abbrev pub Takes : Press N → O → PageResult → Press N → O → Type 0
  Takes p o r q n = TookPage written faults noted failures p o r q n

  abbrev Fails : O → O → Type 0
  Fails o n = Rose (faults o) (faults n)

  -- what the pages of these results lack was printed, after what `before` says
  abbrev pub Noting : (before after : Tally) (a b : N) → List PageResult → Type 0
  Noting before after a b rs = TookAfter before.noted after.noted (change_of noted failures a b) (lacks_from (before.pages + 1) (drawn_in rs))

  -- once one isn't written, none is
  record Stayed (p : Press N) (o : O) (q : Press N) (n : O) (why : WriteStop) : Type 0 where
    stopped : q.stopped ≡ Some why
    same : n ≡ o
    tally : q.tally ≡ p.tally
    counted : q.counted ≡ p.counted
    same_notes : q.notes.ghost_name ≡ p.notes.ghost_name
    notes : q.notes.now ≡ p.notes.now

  stays : (rs : List PageResult) (p : Press N) (o : O) (q : Press N) (n : O) (why : WriteStop) → p.stopped ≡ Some why → TookEach Takes rs p o q n → Stayed p o q n why
  stays [] p o q n why is t = record {
    stopped = ap (λ (x : Press N). x.stopped) t.0 ∙ is;
    same = t.1;
    tally = ap (λ (x : Press N). x.tally) t.0;
    counted = ap (λ (x : Press N). x.counted) t.0;
    same_notes = ap (λ (x : Press N). x.notes.ghost_name) t.0;
    notes = ap (λ (x : Press N). x.notes.now) t.0;
  }
  stays (r ∷ rs) p o q n why is t =
      let u = t.0 in
      let x = t.1 in
      let one = t.2 in
      let step : TookBy p.counted (written o) (written x) (x ≡ o) (Fails o x) (change_of noted failures p.notes.now u.notes.now) r.outcome p.tally u.tally (Some why) u.stopped =
      subst (λ (s : Option WriteStop). TookBy p.counted (written o) (written x) (x ≡ o) (Fails o x) (change_of noted failures p.notes.now u.notes.now) r.outcome p.tally u.tally s u.stopped) is one.step in
      let rest = stays rs u x q n why step.0 t.3 in
      record {
        stopped = rest.stopped;
        same = rest.same ∙ step.1;
        tally = rest.tally ∙ step.3;
        counted = rest.counted ∙ one.counted;
        same_notes = rest.same_notes ∙ one.same_notes;
        notes = rest.notes ∙ step.2;
      }

  pub record AllPressed (rs : List PageResult) (p : Press N) (o : O) (q : Press N) (n : O) : Type 0 where
    pub pressed : Pressed p.counted (written o) (written n) (Fails o n) (Noting p.tally q.tally p.notes.now q.notes.now) rs p.tally q.tally q.stopped
    pub output : faults o ≤ faults n
    pub counted : q.counted ≡ p.counted
    pub black : q.tally.black ≤ q.tally.pages * (20000 * 20000)
    pub same_notes : q.notes.ghost_name ≡ p.notes.ghost_name
    pub notes : failures p.notes.now ≤ failures q.notes.now

  -- one page more at the front
  front : (r : PageResult) (rs : List PageResult) (counted : Bool) (old mid : Option (List ℕ)) (Q P : Type 0) (f : P → Q) (new : Option (List ℕ)) (here : ℕ) (Before After : List PageResult → Type 0) (t v u : Tally) (s : Option WriteStop)
      → WroteOutcome counted old mid ⊥ r.outcome (Ok here) → v.pages ≡ t.pages + 1 → v.black ≡ t.black + here → ((ws : List PageResult) → After ws → Before (r ∷ ws))
      → Pressed counted mid new P After rs v u s → Pressed counted old new Q Before (r ∷ rs) t u s
  front r rs counted old mid Q P f new here Before After t v u None wrote pages black note rest = (
    record {
      black = here + rest.0.black;
      wrote = (mid, here, rest.0.black, wrote, refl, rest.0.wrote);
      pages_are = let a = rest.0.pages_are in omega (arith, a, pages);
      black_is = let a = rest.0.black_is in omega (arith, a, black);
    },
    note rs rest.1,
  )
  front r rs counted old mid Q P f new here Before After t v u (Some why) wrote pages black note rest = (
    record {
      written = r ∷ rest.0.written;
      refused = rest.0.refused;
      rest = rest.0.rest;
      are = ap (λ (l : List PageResult). r ∷ l) rest.0.are;
      mid = rest.0.mid;
      whole = record {
        black = here + rest.0.whole.black;
        wrote = (mid, here, rest.0.whole.black, wrote, refl, rest.0.whole.wrote);
        pages_are = let a = rest.0.whole.pages_are in omega (arith, a, pages);
        black_is = let a = rest.0.whole.black_is in omega (arith, a, black);
      };
      cause = wrote_err counted rest.0.mid new P Q rest.0.refused.outcome why f rest.0.cause;
    },
    note rest.0.written rest.1,
  )

  pub all_pressed : (rs : List PageResult) (p : Press N) (o : O) (q : Press N) (n : O) → p.stopped ≡ None → p.tally.pages + length rs ≤ 1000000 → p.tally.black ≤ p.tally.pages * (20000 * 20000) → All HasFewDots rs → TookEach Takes rs p o q n
      → AllPressed rs p o q n
  all_pressed [] p o q n on few black dots t = record {
    pressed = subst (λ (x : Press N). Pressed p.counted (written o) (written n) (Fails o n) (Noting p.tally x.tally p.notes.now x.notes.now) [] p.tally x.tally x.stopped) (sym t.0)
        (subst (λ (s : Option WriteStop). Pressed p.counted (written o) (written n) (Fails o n) (Noting p.tally p.tally p.notes.now p.notes.now) [] p.tally p.tally s) (sym on) (
          subst (λ (x : O). WroteWhole p.counted (written o) (written x) [] p.tally p.tally) (sym t.1) (none_pressed p.counted (written o) p.tally),
          took_still noted failures p.tally.noted p.tally.noted p.notes.now p.notes.now refl refl,
        ));
    output = let same = ap faults t.1 in omega (arith, same);
    counted = ap (λ (x : Press N). x.counted) t.0;
    black = subst (λ (x : Press N). x.tally.black ≤ x.tally.pages * (20000 * 20000)) (sym t.0) black;
    same_notes = ap (λ (x : Press N). x.notes.ghost_name) t.0;
    notes = let same = ap (λ (x : Press N). failures x.notes.now) t.0 in omega (arith, same);
  }
  all_pressed (r ∷ rs) p o q n on few black dots t = go t.0.stopped refl (λ is less dark. all_pressed rs t.0 t.1 q n is less dark (All-tail HasFewDots r rs dots) t.3)
    where
      u : Press N
      u = t.0

      x : O
      x = t.1

      step : (s : Option WriteStop) → u.stopped ≡ s → TookBy p.counted (written o) (written x) (x ≡ o) (Fails o x) (change_of noted failures p.notes.now u.notes.now) r.outcome p.tally u.tally None s
      step s is =
          subst (λ (z : Option WriteStop). TookBy p.counted (written o) (written x) (x ≡ o) (Fails o x) (change_of noted failures p.notes.now u.notes.now) r.outcome p.tally u.tally None z) is
          (subst (λ (z : Option WriteStop). TookBy p.counted (written o) (written x) (x ≡ o) (Fails o x) (change_of noted failures p.notes.now u.notes.now) r.outcome p.tally u.tally z u.stopped) on t.2.step)

      go : (s : Option WriteStop) → u.stopped ≡ s → (u.stopped ≡ None → u.tally.pages + length rs ≤ 1000000 → u.tally.black ≤ u.tally.pages * (20000 * 20000) → AllPressed rs u x q n) → AllPressed (r ∷ rs) p o q n
      go None is later =
          let one = step None is in
          let small = few_in p.counted (written o) (written x) ⊥ r.outcome one.black (dots 0 r (omega arith)) one.wrote in
          let up = one.pages_are in
          let darker = one.black_is in
          let pages : u.tally.pages ≡ p.tally.pages + 1 = omega (arith, up, few) in
          let dark : u.tally.black ≡ p.tally.black + one.black = omega (arith, darker, few, black, small) in
          let rest = later is (omega (arith, pages, few)) (omega (arith, pages, dark, small, black)) in
          let same = t.2.counted in
          let low = t.2.notes in
          let high = rest.notes in
          let lines = λ (ws : List PageResult).
          ap (λ (m : ℕ). lack_lines m (lacks_in r.outcome) ++ lacks_from (u.tally.pages + 1) (drawn_in ws)) pages
          ∙ (ap (λ (m : ℕ). lack_lines (p.tally.pages + 1) (lacks_in r.outcome) ++ lacks_from (m + 1) (drawn_in ws)) pages
          ∙ sym (lines_more p.counted (written o) (written x) one.black (p.tally.pages + 1) r.outcome ws one.wrote)) in
          record {
            pressed = front r rs p.counted (written o) (written x) (Fails o n) (Fails x n) (λ rose. rose_later (faults o) (faults x) (faults n) t.2.output rose rest.output) (written n) one.black
                (Noting p.tally q.tally p.notes.now q.notes.now) (Noting u.tally q.tally u.notes.now q.notes.now) p.tally u.tally q.tally q.stopped one.wrote pages dark
                (λ ws took.
                took_as p.tally.noted q.tally.noted (change_of noted failures p.notes.now q.notes.now) _ _ (lines ws)
                (took_twice noted failures p.notes.now u.notes.now q.notes.now p.tally.noted u.tally.noted q.tally.noted (lack_lines u.tally.pages (lacks_in r.outcome)) (lacks_from (u.tally.pages + 1) (drawn_in ws)) low high one.noted took))
                (subst (λ (b : Bool). Pressed b (written x) (written n) (Fails x n) (Noting u.tally q.tally u.notes.now q.notes.now) rs u.tally q.tally q.stopped) same rest.pressed);
            output = let a = t.2.output in let b = rest.output in omega (arith, a, b);
            counted = rest.counted ∙ same;
            black = rest.black;
            same_notes = rest.same_notes ∙ t.2.same_notes;
            notes = omega (arith, low, high);
          }
      go (Some why) is later =
          let one = step (Some why) is in
          let rest = stays rs u x q n why is t.3 in
          let tally : q.tally ≡ p.tally = rest.tally ∙ one.2 in
          let still : q.notes.now ≡ p.notes.now = rest.notes ∙ one.1 in
          let stopped : WroteUpTo p.counted (written o) (written n) (Fails o n) (r ∷ rs) p.tally q.tally why = record {
            written = [];
            refused = r;
            rest = rs;
            are = refl;
            mid = written o;
            whole = subst (λ (z : Tally). WroteWhole p.counted (written o) (written o) [] p.tally z) (sym tally) (none_pressed p.counted (written o) p.tally);
            cause = subst (λ (z : O). WroteOutcome p.counted (written o) (written z) (Fails o z) r.outcome (Err why)) (sym rest.same) one.0;
          } in
          record {
            pressed = subst (λ (z : Option WriteStop). Pressed p.counted (written o) (written n) (Fails o n) (Noting p.tally q.tally p.notes.now q.notes.now) (r ∷ rs) p.tally q.tally z) (sym rest.stopped)
                (stopped, took_still noted failures p.tally.noted q.tally.noted p.notes.now q.notes.now (ap (λ (z : Tally). z.noted) tally) still);
            output = let a = t.2.output in let same = ap faults rest.same in omega (arith, a, same);
            counted = rest.counted ∙ t.2.counted;
            black = subst (λ (z : Tally). z.black ≤ z.pages * (20000 * 20000)) (sym tally) black;
            same_notes = rest.same_notes ∙ t.2.same_notes;
            notes = let same = ap failures still in omega (arith, same);
          }
