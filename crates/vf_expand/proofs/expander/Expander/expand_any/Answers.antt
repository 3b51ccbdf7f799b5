use Rattle.std.proofs.Common.{◌≡◌, ◌∙◌, ◌<◌, ◌+◌, ◌-◌, ℕ, false, List, refl, sym, ap, subst, arith, length, None, Some}
use Rattle.std.specs.Prelude.{IsSome}
use Rattle.dvi_commands.specs.Spelling.{value_of_command}
use Rattle.vf_expand.specs.Course.{Current, Stops}
use Rattle.vf_expand.specs.Limits.{MAX_DEPTH}
use Rattle.vf_expand.specs.Faults.{TooLong}
use Rattle.drift_rules.specs.Position.{Skip, value_of_flat}
use Rattle.vf_expand.specs.Expansion.{Expansion, Stack, depth, font_of}
use Rattle.vf_expand.specs.Steps.{GivesOne}
use Rattle.vf_expand.specs.Levels.{AreLevels, stack_of, level_text}
use Rattle.vf_expand.specs.Effects.{value_of_current, value_of_place}
use Rattle.vf_expand.specs.View.{value_of_expander}
use Rattle.vf_expand.specs.declared.outer_levels.Level.{Level}
use Rattle.vf_expand.specs.declared.current.Current.TheVariants as code
use Rattle.vf_expand.proofs.Heads.{depth_is, ended, head_at, late_stack, stack_same, still_at}
use Rattle.vf_expand.proofs.Levels.{dimensions_at, entered_levels, has_key, read_on_at}
use Rattle.vf_expand.proofs.Steps.{ask_step, change_step, enter_step, flat_step, lack_step, lack_stop_step, late_step, mark_step, stop_step}
use Rattle.vf_expand.proofs.expander.Expander.expand_any.Goals as goal

pub ended-requires-clause-ended : goal.ended-requires-clause-ended
ended-requires-clause-ended c =
    let x = c.self.inside in
    rw (← c.self.view_is) (ended x.bytes.now x.start x.level x.outer (c.if-self-reading.true ∙ ap length c.current_level-reading.ensures.text))

pub returns-then-self-eq0-clause-step : goal.returns-then-self-eq0-clause-step
returns-then-self-eq0-clause-step c =
    let x = c.self.inside in
    let e = c.current_level-reading.ensures in
    let eop = x.start + length x.bytes.now in
    let now = value_of_current x.level.current in
    let nothing_pending = rw (← c.self.view_is) at c.requires.nothing_pending in
    let before : x.level.pos < length (level_text x.bytes.now x.level x.outer) = subst (λ (t : List ℕ). x.level.pos < length t) e.text (omega (arith, e.inside, c.if-self-reading.false)) in
    let late = late_stack x.tolerant x.index.now.reading eop x.start x.progress.at x.bytes.now x.level x.outer now before c.self.invariant.levels ∙ ap (Stops TooLong) (sym e.at) in
    rw c.halted_at-self-inside.ensures (rw (← c.self.view_is)
    (late_step (value_of_expander x) nothing_pending c.current_level-reading.result.at (still_at x.index.now.reading eop x.start x.progress.at x.bytes.now x.level x.outer c.current_level-reading.result.at e.at now) late c.if-self-eq0.true))

pub effect_of-requires-clause-dimensions : goal.effect_of-requires-clause-dimensions
effect_of-requires-clause-dimensions c =
    let x = c.self.inside in
    let e = c.current_level-reading.ensures in
    let read = c.command_at-end in
    dimensions_at x.bytes.now x.level x.outer read.result.1 (value_of_command read.result.0) c.current_level-reading.result.text.now e.text read.ensures.place.0 read.ensures.place.1 read.ensures.spelled
    c.self.invariant.levels x.index.now.reading (value_of_place c.current_level-reading.result.place) e.place

pub invariant_of-self-in-Flat : goal.invariant_of-self-in-Flat
invariant_of-self-in-Flat c =
    let x = c.self.inside in
    let e = c.current_level-reading.ensures in
    let read = c.command_at-end in
    rw c.after_flat-self-inside.ensures record {
      room = c.self.invariant.room;
      deep = c.self.invariant.deep;
      levels = read_on_at x.bytes.now x.level x.outer read.result.1 (value_of_command read.result.0) c.current_level-reading.result.text.now e.text read.ensures.place.0 read.ensures.place.1
          read.ensures.spelled c.self.invariant.levels x.level.current c.current_level-reading.result.context e.context read.ensures.readable (has_key x.bytes.now x.level x.outer c.self.invariant.levels);
      pending = c.self.invariant.pending;
      marked = λ h. absurd cc;
    }

pub invariant_of-self-in-Char : goal.invariant_of-self-in-Char
invariant_of-self-in-Char c =
    let x = c.self.inside in
    let e = c.current_level-reading.ensures in
    let read = c.command_at-end in
    let has_effect = rw c.in-Char.is at c.in_ok-flat.ensures.has_effect in
    rw c.after_flat-self-inside-in-Char.ensures record {
      room = c.self.invariant.room;
      deep = c.self.invariant.deep;
      levels = read_on_at x.bytes.now x.level x.outer read.result.1 (value_of_command read.result.0) c.current_level-reading.result.text.now e.text read.ensures.place.0 read.ensures.place.1
          read.ensures.spelled c.self.invariant.levels x.level.current c.current_level-reading.result.context e.context read.ensures.readable (has_key x.bytes.now x.level x.outer c.self.invariant.levels);
      pending = c.self.invariant.pending;
      marked = λ h. subst (λ (x : Current). IsSome (font_of x)) (sym has_effect.known) refl;
    }

pub invariant_of-self-in-Change : goal.invariant_of-self-in-Change
invariant_of-self-in-Change c =
    let x = c.self.inside in
    let e = c.current_level-reading.ensures in
    let read = c.command_at-end in
    let fits = rw c.in-Change.is at c.in_ok-flat.ensures.fits in
    rw c.after_flat-self-inside-in-Change.ensures record {
      room = c.self.invariant.room;
      deep = c.self.invariant.deep;
      levels = read_on_at x.bytes.now x.level x.outer read.result.1 (value_of_command read.result.0) c.current_level-reading.result.text.now e.text read.ensures.place.0 read.ensures.place.1
          read.ensures.spelled c.self.invariant.levels (code.Chosen c.in-Change.key) c.current_level-reading.result.context e.context read.ensures.readable fits;
      pending = c.self.invariant.pending;
      marked = λ h. absurd cc;
    }

pub returns-in-Flat-clause-step : goal.returns-in-Flat-clause-step
returns-in-Flat-clause-step c =
    let x = c.self.inside in
    let e = c.current_level-reading.ensures in
    let read = c.command_at-end in
    let eop = x.start + length x.bytes.now in
    let here = c.current_level-reading.result.at in
    let place = value_of_place c.current_level-reading.result.place in
    let nothing_pending = rw (← c.self.view_is) at c.requires.nothing_pending in
    let room : 0 < x.progress.budget = omega (arith, c.if-self-eq0.false) in
    let few : MAX_DEPTH - c.len-room.result ≡ MAX_DEPTH - length x.outer = ap (λ (n : ℕ). MAX_DEPTH - n) c.len-room.ensures in
    let has_effect = rw c.in-Flat.is at c.in_ok-flat.ensures.has_effect in
    let next = head_at x.index.now.reading eop x.start x.progress.at x.bytes.now x.level x.outer read.result.1 (value_of_command read.result.0) c.current_level-reading.result.text.now place here
    (MAX_DEPTH - c.len-room.result) e.text e.place e.at few read.ensures.place.0 read.ensures.place.1 read.ensures.spelled in
    let same = still_at x.index.now.reading eop x.start x.progress.at x.bytes.now x.level x.outer here e.at (value_of_current x.level.current) in
    let fits = rw c.in-Flat.is at c.in_ok-flat.ensures.fits in
    rw c.after_flat-self-inside.ensures (rw (← c.self.view_is)
    (None, flat_step (value_of_expander x) nothing_pending room (MAX_DEPTH - c.len-room.result) here place (value_of_command read.result.0) (stack_of x.bytes.now x.start (record x.level { pos = read.result.1 }) x.outer) next same c.in-Flat.flat has_effect fits.1))

pub returns-in-Char-clause-step : goal.returns-in-Char-clause-step
returns-in-Char-clause-step c =
    let x = c.self.inside in
    let e = c.current_level-reading.ensures in
    let read = c.command_at-end in
    let eop = x.start + length x.bytes.now in
    let here = c.current_level-reading.result.at in
    let place = value_of_place c.current_level-reading.result.place in
    let nothing_pending = rw (← c.self.view_is) at c.requires.nothing_pending in
    let room : 0 < x.progress.budget = omega (arith, c.if-self-eq0.false) in
    let few : MAX_DEPTH - c.len-room.result ≡ MAX_DEPTH - length x.outer = ap (λ (n : ℕ). MAX_DEPTH - n) c.len-room.ensures in
    let has_effect = rw c.in-Char.is at c.in_ok-flat.ensures.has_effect in
    let next = head_at x.index.now.reading eop x.start x.progress.at x.bytes.now x.level x.outer read.result.1 (value_of_command read.result.0) c.current_level-reading.result.text.now place here
    (MAX_DEPTH - c.len-room.result) e.text e.place e.at few read.ensures.place.0 read.ensures.place.1 read.ensures.spelled in
    let same = still_at x.index.now.reading eop x.start x.progress.at x.bytes.now x.level x.outer here e.at (value_of_current x.level.current) in
    rw c.after_flat-self-inside-in-Char.ensures (rw (← c.self.view_is) (Some has_effect.glyph, mark_step (value_of_expander x) nothing_pending room (MAX_DEPTH - c.len-room.result) here place (value_of_command read.result.0) (stack_of x.bytes.now x.start (record x.level { pos = read.result.1 }) x.outer) next same (value_of_flat c.in-Char.flat) has_effect))

pub returns-in-Change-clause-step : goal.returns-in-Change-clause-step
returns-in-Change-clause-step c =
    let x = c.self.inside in
    let e = c.current_level-reading.ensures in
    let read = c.command_at-end in
    let eop = x.start + length x.bytes.now in
    let here = c.current_level-reading.result.at in
    let place = value_of_place c.current_level-reading.result.place in
    let nothing_pending = rw (← c.self.view_is) at c.requires.nothing_pending in
    let room : 0 < x.progress.budget = omega (arith, c.if-self-eq0.false) in
    let few : MAX_DEPTH - c.len-room.result ≡ MAX_DEPTH - length x.outer = ap (λ (n : ℕ). MAX_DEPTH - n) c.len-room.ensures in
    let has_effect = rw c.in-Change.is at c.in_ok-flat.ensures.has_effect in
    let next = head_at x.index.now.reading eop x.start x.progress.at x.bytes.now x.level x.outer read.result.1 (value_of_command read.result.0) c.current_level-reading.result.text.now place here
    (MAX_DEPTH - c.len-room.result) e.text e.place e.at few read.ensures.place.0 read.ensures.place.1 read.ensures.spelled in
    let same = still_at x.index.now.reading eop x.start x.progress.at x.bytes.now x.level x.outer here e.at (value_of_current x.level.current) in
    let now = value_of_current (code.Chosen c.in-Change.key) in
    let stack = stack_same x.bytes.now x.start (record x.level { pos = read.result.1 }) (code.Chosen c.in-Change.key) x.outer in
    let given : Stack → Expansion = λ s. record (value_of_expander x) { at = here; budget = x.progress.budget - 1; marked = false; current = now; stack = s } in
    rw c.after_flat-self-inside-in-Change.ensures (rw (← c.self.view_is) (
      None,
      subst (λ (s : Stack). GivesOne (value_of_expander x) (given s) Skip None) (sym stack)
          (change_step (value_of_expander x) nothing_pending room (MAX_DEPTH - c.len-room.result) here place (value_of_command read.result.0) (stack_of x.bytes.now x.start (record x.level { pos = read.result.1 }) x.outer) next same c.in-Change.key has_effect),
    ))

pub returns-in-Ask-clause-step : goal.returns-in-Ask-clause-step
returns-in-Ask-clause-step c =
    let x = c.self.inside in
    let e = c.current_level-reading.ensures in
    let read = c.command_at-end in
    let eop = x.start + length x.bytes.now in
    let here = c.current_level-reading.result.at in
    let place = value_of_place c.current_level-reading.result.place in
    let nothing_pending = rw (← c.self.view_is) at c.requires.nothing_pending in
    let room : 0 < x.progress.budget = omega (arith, c.if-self-eq0.false) in
    let few : MAX_DEPTH - c.len-room.result ≡ MAX_DEPTH - length x.outer = ap (λ (n : ℕ). MAX_DEPTH - n) c.len-room.ensures in
    let has_effect = rw c.in-Ask.is at c.in_ok-flat.ensures.has_effect in
    let next = head_at x.index.now.reading eop x.start x.progress.at x.bytes.now x.level x.outer read.result.1 (value_of_command read.result.0) c.current_level-reading.result.text.now place here
    (MAX_DEPTH - c.len-room.result) e.text e.place e.at few read.ensures.place.0 read.ensures.place.1 read.ensures.spelled in
    let same = still_at x.index.now.reading eop x.start x.progress.at x.bytes.now x.level x.outer here e.at (value_of_current x.level.current) in
    rw c.halted_at-self-inside-in-Ask.ensures (rw (← c.self.view_is) (ask_step (value_of_expander x) nothing_pending room (MAX_DEPTH - c.len-room.result) here place (value_of_command read.result.0) (stack_of x.bytes.now x.start (record x.level { pos = read.result.1 }) x.outer) next same c.in-Ask.key has_effect))

pub returns-in-Stop-clause-step : goal.returns-in-Stop-clause-step
returns-in-Stop-clause-step c =
    let x = c.self.inside in
    let e = c.current_level-reading.ensures in
    let read = c.command_at-end in
    let eop = x.start + length x.bytes.now in
    let here = c.current_level-reading.result.at in
    let place = value_of_place c.current_level-reading.result.place in
    let nothing_pending = rw (← c.self.view_is) at c.requires.nothing_pending in
    let room : 0 < x.progress.budget = omega (arith, c.if-self-eq0.false) in
    let few : MAX_DEPTH - c.len-room.result ≡ MAX_DEPTH - length x.outer = ap (λ (n : ℕ). MAX_DEPTH - n) c.len-room.ensures in
    let has_effect = rw c.in-Stop.is at c.in_ok-flat.ensures.has_effect in
    let next = head_at x.index.now.reading eop x.start x.progress.at x.bytes.now x.level x.outer read.result.1 (value_of_command read.result.0) c.current_level-reading.result.text.now place here
    (MAX_DEPTH - c.len-room.result) e.text e.place e.at few read.ensures.place.0 read.ensures.place.1 read.ensures.spelled in
    let same = still_at x.index.now.reading eop x.start x.progress.at x.bytes.now x.level x.outer here e.at (value_of_current x.level.current) in
    rw c.halted_at-self-inside-in-Stop.ensures (rw (← c.self.view_is) (stop_step (value_of_expander x) nothing_pending room (MAX_DEPTH - c.len-room.result) here place (value_of_command read.result.0) (stack_of x.bytes.now x.start (record x.level { pos = read.result.1 }) x.outer) next same c.in-Stop.fault has_effect))

pub returns-then-not-self-clause-step : goal.returns-then-not-self-clause-step
returns-then-not-self-clause-step c =
    let x = c.self.inside in
    let e = c.current_level-reading.ensures in
    let read = c.command_at-end in
    let eop = x.start + length x.bytes.now in
    let here = c.current_level-reading.result.at in
    let place = value_of_place c.current_level-reading.result.place in
    let nothing_pending = rw (← c.self.view_is) at c.requires.nothing_pending in
    let room : 0 < x.progress.budget = omega (arith, c.if-self-eq0.false) in
    let few : MAX_DEPTH - c.len-room.result ≡ MAX_DEPTH - length x.outer = ap (λ (n : ℕ). MAX_DEPTH - n) c.len-room.ensures in
    let has_effect = rw c.in-Lack.is at c.in_ok-flat.ensures.has_effect in
    let next = head_at x.index.now.reading eop x.start x.progress.at x.bytes.now x.level x.outer read.result.1 (value_of_command read.result.0) c.current_level-reading.result.text.now place here
    (MAX_DEPTH - c.len-room.result) e.text e.place e.at few read.ensures.place.0 read.ensures.place.1 read.ensures.spelled in
    let same = still_at x.index.now.reading eop x.start x.progress.at x.bytes.now x.level x.outer here e.at (value_of_current x.level.current) in
    rw c.halted_at-self-inside-in-Lack.ensures (rw (← c.self.view_is) (lack_stop_step (value_of_expander x) nothing_pending room (MAX_DEPTH - c.len-room.result) here place (value_of_command read.result.0) (stack_of x.bytes.now x.start (record x.level { pos = read.result.1 }) x.outer) next same c.in-Lack.fault c.in-Lack.advance c.if-not-self.true has_effect))

pub returns-else-not-self-clause-step : goal.returns-else-not-self-clause-step
returns-else-not-self-clause-step c =
    let x = c.self.inside in
    let e = c.current_level-reading.ensures in
    let read = c.command_at-end in
    let eop = x.start + length x.bytes.now in
    let here = c.current_level-reading.result.at in
    let place = value_of_place c.current_level-reading.result.place in
    let nothing_pending = rw (← c.self.view_is) at c.requires.nothing_pending in
    let room : 0 < x.progress.budget = omega (arith, c.if-self-eq0.false) in
    let few : MAX_DEPTH - c.len-room.result ≡ MAX_DEPTH - length x.outer = ap (λ (n : ℕ). MAX_DEPTH - n) c.len-room.ensures in
    let has_effect = rw c.in-Lack.is at c.in_ok-flat.ensures.has_effect in
    let next = head_at x.index.now.reading eop x.start x.progress.at x.bytes.now x.level x.outer read.result.1 (value_of_command read.result.0) c.current_level-reading.result.text.now place here
    (MAX_DEPTH - c.len-room.result) e.text e.place e.at few read.ensures.place.0 read.ensures.place.1 read.ensures.spelled in
    let same = still_at x.index.now.reading eop x.start x.progress.at x.bytes.now x.level x.outer here e.at (value_of_current x.level.current) in
    rw c.halted_at-self-inside-in-Lack.ensures ((rw (← c.self.view_is) (lack_step (value_of_expander x) nothing_pending room (MAX_DEPTH - c.len-room.result) here place (value_of_command read.result.0) (stack_of x.bytes.now x.start (record x.level { pos = read.result.1 }) x.outer) next same c.in-Lack.fault c.in-Lack.advance c.in_place.result c.in_place.ensures.value c.if-not-self.false has_effect)), refl)

pub in_place-requires : goal.in_place-requires
in_place-requires c =
    let fits = rw c.in-Lack.is at c.in_ok-flat.ensures.fits in
    fits.0

pub returns-else-not-self-clause-fits : goal.returns-else-not-self-clause-fits
returns-else-not-self-clause-fits c =
    let fits = rw c.in-Lack.is at c.in_ok-flat.ensures.fits in
    fits.1

pub invariant_of-self-in-Lack : goal.invariant_of-self-in-Lack
invariant_of-self-in-Lack c =
    let x = c.self.inside in
    let e = c.current_level-reading.ensures in
    let read = c.command_at-end in
    rw c.halted_at-self-inside-in-Lack.ensures record {
      room = c.self.invariant.room;
      deep = c.self.invariant.deep;
      levels = read_on_at x.bytes.now x.level x.outer read.result.1 (value_of_command read.result.0) c.current_level-reading.result.text.now e.text read.ensures.place.0 read.ensures.place.1
          read.ensures.spelled c.self.invariant.levels x.level.current c.current_level-reading.result.context e.context read.ensures.readable (has_key x.bytes.now x.level x.outer c.self.invariant.levels);
      pending = c.in_place.ensures.fits;
      marked = λ h. absurd cc;
    }

pub invariant_of-self-in-Enter : goal.invariant_of-self-in-Enter
invariant_of-self-in-Enter c =
    let x = c.self.inside in
    let e = c.current_level-reading.ensures in
    let read = c.command_at-end in
    let has_effect = rw c.in-Enter.is at c.in_ok-flat.ensures.has_effect in
    let fits = rw c.in-Enter.is at c.in_ok-flat.ensures.fits in
    let outside : Level = record x.level { pos = read.result.1 } in
    let own = read_on_at x.bytes.now x.level x.outer read.result.1 (value_of_command read.result.0) c.current_level-reading.result.text.now e.text read.ensures.place.0 read.ensures.place.1
    read.ensures.spelled c.self.invariant.levels x.level.current c.current_level-reading.result.context e.context read.ensures.readable
    (has_key x.bytes.now x.level x.outer c.self.invariant.levels) in
    let fine = entered_levels x.bytes.now c.in-Enter.level outside x.outer _ _ has_effect fits.0 fits.1 own in
    let few : length x.outer < MAX_DEPTH = omega (arith, has_effect.some, c.len-room.ensures) in
    rw c.after_flat-self-inside-in-Enter.ensures record {
      room = c.self.invariant.room;
      deep = omega (arith, ap length c.in_ok-enter-in-Enter.ensures.outer, few);
      levels = subst (λ (f : Level). AreLevels x.bytes.now f c.enter.new.self) (sym c.in_ok-enter-in-Enter.ensures.level)
          (subst (AreLevels x.bytes.now c.in-Enter.level) (sym c.in_ok-enter-in-Enter.ensures.outer) fine);
      pending = c.self.invariant.pending;
      marked = λ h. absurd cc;
    }

pub returns-in_ok-enter-in-Enter-clause-step : goal.returns-in_ok-enter-in-Enter-clause-step
returns-in_ok-enter-in-Enter-clause-step c =
    let x = c.self.inside in
    let e = c.current_level-reading.ensures in
    let read = c.command_at-end in
    let eop = x.start + length x.bytes.now in
    let here = c.current_level-reading.result.at in
    let place = value_of_place c.current_level-reading.result.place in
    let nothing_pending = rw (← c.self.view_is) at c.requires.nothing_pending in
    let room : 0 < x.progress.budget = omega (arith, c.if-self-eq0.false) in
    let few : MAX_DEPTH - c.len-room.result ≡ MAX_DEPTH - length x.outer = ap (λ (n : ℕ). MAX_DEPTH - n) c.len-room.ensures in
    let has_effect = rw c.in-Enter.is at c.in_ok-flat.ensures.has_effect in
    let outside : Level = record x.level { pos = read.result.1 } in
    let next = head_at x.index.now.reading eop x.start x.progress.at x.bytes.now x.level x.outer read.result.1 (value_of_command read.result.0) c.current_level-reading.result.text.now place here
    (MAX_DEPTH - c.len-room.result) e.text e.place e.at few read.ensures.place.0 read.ensures.place.1 read.ensures.spelled in
    let same = still_at x.index.now.reading eop x.start x.progress.at x.bytes.now x.level x.outer here e.at (value_of_current x.level.current) in
    let rest = stack_of x.bytes.now x.start outside x.outer in
    let deep : MAX_DEPTH - c.len-room.result ≡ MAX_DEPTH - depth rest = few ∙ ap (λ (n : ℕ). MAX_DEPTH - n) (sym (depth_is x.bytes.now x.start outside x.outer)) in
    rw (c.after_flat-self-inside-in-Enter.ensures, c.in_ok-enter-in-Enter.ensures.level, c.in_ok-enter-in-Enter.ensures.outer) (rw (← c.self.view_is)
    (None, enter_step (value_of_expander x) nothing_pending room (MAX_DEPTH - c.len-room.result) here place (value_of_command read.result.0) rest next same deep c.in-Enter.level has_effect))
