use Rattle.std.proofs.Common.{◌≡◌, ◌∙◌, ◌<◌, ◌+◌, ◌-◌, ℕ, ℤ, refl, sym, ap, subst, arith, length, None, to_z, of_z, w32}
use Rattle.std.proofs.lemmas.Int.{ints}
use Rattle.dvi_commands.specs.Spelling.{value_of_command}
use Rattle.vf_expand.specs.Limits.{MAX_DEPTH}
use Rattle.vf_expand.specs.Expansion.{depth}
use Rattle.vf_expand.specs.Levels.{AreLevels, stack_of}
use Rattle.vf_expand.specs.Effects.{CharacterHasEffect, value_of_current, value_of_place}
use Rattle.vf_expand.specs.Sets.{character_command}
use Rattle.vf_expand.specs.View.{value_of_expander}
use Rattle.vf_expand.specs.declared.effect.Effect.TheVariants as effect
use Rattle.vf_expand.specs.declared.outer_levels.Level.{Level}
use Rattle.vf_expand.proofs.Entries.{enter_command}
use Rattle.vf_expand.proofs.Heads.{depth_is, ended, head_at, still_at}
use Rattle.vf_expand.proofs.Levels.{dimensions_at, entered_levels, has_key, read_on_at}
use Rattle.vf_expand.proofs.Steps.{enter_step, flat_step}
use Rattle.vf_expand.proofs.expander.Expander.expand.Goals as goal

pub ended-requires-clause-ended : goal.ended-requires-clause-ended
ended-requires-clause-ended c =
    let x = c.self.inside in
    rw (← c.self.view_is) (ended x.bytes.now x.start x.level x.outer (c.if-self-reading.true ∙ ap length c.current_level-reading.ensures.text))

pub flat_of-requires-clause-dimensions : goal.flat_of-requires-clause-dimensions
flat_of-requires-clause-dimensions c =
    let x = c.self.inside in
    let e = c.current_level-reading.ensures in
    let read = c.command_at-end in
    dimensions_at x.bytes.now x.level x.outer read.result.1 (value_of_command read.result.0) c.current_level-reading.result.text.now e.text read.ensures.place.0 read.ensures.place.1 read.ensures.spelled
    c.self.invariant.levels x.index.now.reading (value_of_place c.current_level-reading.result.place) e.place

pub invariant_of-self : goal.invariant_of-self
invariant_of-self c =
    let x = c.self.inside in
    let e = c.current_level-reading.ensures in
    let read = c.command_at-end in
    rw c.after_flat-self-inside.ensures record {
      room = c.self.invariant.room;
      deep = c.self.invariant.deep;
      levels = read_on_at x.bytes.now x.level x.outer read.result.1 (value_of_command read.result.0) c.current_level-reading.result.text.now e.text read.ensures.place.0 read.ensures.place.1
          read.ensures.spelled c.self.invariant.levels x.level.current c.current_level-reading.result.context e.context read.ensures.readable (has_key x.bytes.now x.level x.outer c.self.invariant.levels);
      pending = c.self.invariant.pending;
      marked = λ h. absurd cc;
    }

pub returns-in-Some-clause-step : goal.returns-in-Some-clause-step
returns-in-Some-clause-step c =
    let x = c.self.inside in
    let e = c.current_level-reading.ensures in
    let read = c.command_at-end in
    let eop = x.start + length x.bytes.now in
    let here = c.current_level-reading.result.at in
    let place = value_of_place c.current_level-reading.result.place in
    let nothing_pending = rw (← c.self.view_is) at c.requires.nothing_pending in
    let room : 0 < x.progress.budget = omega (arith, c.if-self-gt0.true) in
    let next = head_at x.index.now.reading eop x.start x.progress.at x.bytes.now x.level x.outer read.result.1 (value_of_command read.result.0) c.current_level-reading.result.text.now place here
    (MAX_DEPTH - length x.outer) e.text e.place e.at refl read.ensures.place.0 read.ensures.place.1 read.ensures.spelled in
    let same = still_at x.index.now.reading eop x.start x.progress.at x.bytes.now x.level x.outer here e.at (value_of_current x.level.current) in
    rw c.after_flat-self-inside.ensures (rw (← c.self.view_is)
    (None, flat_step (value_of_expander x) nothing_pending room (MAX_DEPTH - length x.outer) here place (value_of_command read.result.0) (stack_of x.bytes.now x.start (record x.level { pos = read.result.1 }) x.outer) next same c.in-Some.flat (c.in-Some.ensures.has_effect (MAX_DEPTH - length x.outer)) c.in-Some.ensures.fits.1))

pub invariant_of-self-then-branch : goal.invariant_of-self-then-branch
invariant_of-self-then-branch c =
    let x = c.self.inside in
    let e = c.current_level-reading.ensures in
    let set = c.in-Some-set in
    let entered = c.in_ok-enter_packet.ensures in
    let level = c.enter_packet.new.level in
    let outer = entered.outer c.if-branch.true in
    let has_effect = entered.enters c.if-branch.true (value_of_place c.current_level-reading.result.place) in
    let fits = entered.fits c.if-branch.true in
    let outside : Level = record x.level { pos = set.end } in
    let own = read_on_at x.bytes.now x.level x.outer set.end (character_command set.code set.put) c.current_level-reading.result.text.now e.text set.ensures.set.after set.ensures.set.inside
    set.ensures.set.spelled c.self.invariant.levels x.level.current c.current_level-reading.result.context e.context set.ensures.readable
    (has_key x.bytes.now x.level x.outer c.self.invariant.levels) in
    let fine = entered_levels x.bytes.now level outside x.outer _ _ has_effect fits.0 fits.1 own in
    rw c.after_flat-self-inside-then-branch.ensures record {
      room = c.self.invariant.room;
      deep = omega (arith, ap length outer, has_effect.some);
      levels = subst (AreLevels x.bytes.now level) (sym outer) fine;
      pending = c.self.invariant.pending;
      marked = λ h. absurd cc;
    }

pub returns-then-branch-clause-step : goal.returns-then-branch-clause-step
returns-then-branch-clause-step c =
    let x = c.self.inside in
    let e = c.current_level-reading.ensures in
    let set = c.in-Some-set in
    let entered = c.in_ok-enter_packet.ensures in
    let level = c.enter_packet.new.level in
    let outer = entered.outer c.if-branch.true in
    let eop = x.start + length x.bytes.now in
    let here = c.current_level-reading.result.at in
    let place = value_of_place c.current_level-reading.result.place in
    let current = value_of_current x.level.current in
    let command = character_command set.code set.put in
    let room_left = MAX_DEPTH - length x.outer in
    let nothing_pending = rw (← c.self.view_is) at c.requires.nothing_pending in
    let room : 0 < x.progress.budget = omega (arith, c.if-self-gt0-2.true) in
    let same_code : to_z w32 (of_z w32 set.code) ≡ set.code = omega (arith, ints) in
    let character = subst (λ (z : ℤ). CharacterHasEffect place room_left current z set.put (effect.Enter level)) same_code (entered.enters c.if-branch.true place) in
    let has_effect = enter_command place room_left current set.code set.put level character in
    let outside : Level = record x.level { pos = set.end } in
    let next = head_at x.index.now.reading eop x.start x.progress.at x.bytes.now x.level x.outer set.end command c.current_level-reading.result.text.now place here
    room_left e.text e.place e.at refl set.ensures.set.after set.ensures.set.inside set.ensures.set.spelled in
    let same = still_at x.index.now.reading eop x.start x.progress.at x.bytes.now x.level x.outer here e.at current in
    let rest = stack_of x.bytes.now x.start outside x.outer in
    let deep : room_left ≡ MAX_DEPTH - depth rest = ap (λ (n : ℕ). MAX_DEPTH - n) (sym (depth_is x.bytes.now x.start outside x.outer)) in
    rw (c.after_flat-self-inside-then-branch.ensures, outer) (rw (← c.self.view_is)
    (None, enter_step (value_of_expander x) nothing_pending room room_left here place command rest next same deep level has_effect))
