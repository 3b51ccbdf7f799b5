use Rattle.std.proofs.Common.{◌≡◌, ◌∙◌, ◌<◌, ◌+◌, ◌-◌, refl, ap, arith, length, sym, subst}
use Rattle.std.specs.Arc.{arc_value}
use Rattle.vf_expand.specs.Course.{Chosen}
use Rattle.vf_expand.specs.Limits.{MAX_DEPTH}
use Rattle.vf_expand.specs.Levels.{stack_of}
use Rattle.vf_expand.specs.Effects.{HasKey, value_of_current, value_of_place}
use Rattle.vf_expand.specs.Sets.{character_command}
use Rattle.vf_expand.specs.View.{value_of_expander}
use Rattle.vf_expand.proofs.Asking.{ask_command}
use Rattle.vf_expand.proofs.Heads.{head_at, still_at}
use Rattle.vf_expand.proofs.Levels.{has_key}
use Rattle.vf_expand.proofs.Steps.{ask_step}
use Rattle.vf_expand.proofs.expander.Expander.key_to_ask.Goals as goal

pub returns-clause-asks : goal.returns-clause-asks
returns-clause-asks c =
    let x = c.self.inside in
    let e = c.current_level-reading.ensures in
    let set = c.in-Some.ensures.set in
    let eop = x.start + length x.bytes.now in
    let here = c.current_level-reading.result.at in
    let place = value_of_place c.current_level-reading.result.place in
    let current = value_of_current x.level.current in
    let room_left = MAX_DEPTH - length x.outer in
    let nothing_pending = rw (← c.self.view_is) at c.requires.nothing_pending in
    let room : 0 < x.progress.budget = omega (arith, c.if-self-eq0.false) in
    let command = character_command c.in-Some.set.0 c.in-Some.set.1 in
    let next = head_at x.index.now.reading eop x.start x.progress.at x.bytes.now x.level x.outer c.in-Some.set.2 command c.current_level-reading.result.text.now place here
    room_left e.text e.place e.at refl set.after set.inside set.spelled in
    let same = still_at x.index.now.reading eop x.start x.progress.at x.bytes.now x.level x.outer here e.at current in
    let key = c.in_ok-asked.asked in
    let chosen : current ≡ Chosen (arc_value key) = ap value_of_current c.in-Chosen.is ∙ ap Chosen (sym c.in_ok-asked.ensures) in
    rw c.halted_at-self-inside.ensures (rw (← c.self.view_is)
    (ask_step (value_of_expander x) nothing_pending room room_left here place command (stack_of x.bytes.now x.start (record x.level { pos = c.in-Some.set.2 }) x.outer) next same key
    (ask_command place room_left current key c.in-Some.set.0 c.in-Some.set.1 chosen)))

pub returns-clause-fits : goal.returns-clause-fits
returns-clause-fits c =
    let x = c.self.inside in
    let key = c.in_ok-asked.asked in
    let chosen : value_of_current x.level.current ≡ Chosen (arc_value key) = ap value_of_current c.in-Chosen.is ∙ ap Chosen (sym c.in_ok-asked.ensures) in
    subst HasKey chosen (has_key x.bytes.now x.level x.outer c.self.invariant.levels)
