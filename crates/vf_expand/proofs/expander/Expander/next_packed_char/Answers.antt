use Rattle.std.proofs.Common.{◌≡◌, ◌∙◌, ◌<◌, ◌+◌, ◌-◌, ℤ, true, false, refl, sym, ap, subst, arith, length, drop, to_z, of_z, w32, w64}
use Rattle.std.specs.Prelude.{IsSome, unsigned_abs}
use Rattle.std.proofs.lemmas.Int.{ints}
use Rattle.std.specs.Arc.{arc_value}
use Rattle.drift_rules.specs.Position.{Char, FlatCommand}
use Rattle.drift_rules.specs.Bounds.{IsNumber}
use Rattle.vf_expand.specs.Course.{Current, character, deeper}
use Rattle.vf_expand.specs.Limits.{MAX_DEPTH}
use Rattle.vf_expand.specs.Expansion.{Expansion, GivesNoPackedChar, font_of, rest_of}
use Rattle.vf_expand.specs.Levels.{context_of, stack_of, level_text}
use Rattle.vf_expand.specs.Effects.{IsCharEffect, SetsNoPackedChar, value_of_current, value_of_place}
use Rattle.vf_expand.specs.Sets.{SetsNothing, character_command}
use Rattle.vf_expand.specs.Steps.{GivesOne}
use Rattle.vf_expand.specs.View.{value_of_expander}
use Rattle.vf_expand.proofs.Heads.{head_at, still_at}
use Rattle.vf_expand.proofs.Levels.{has_key, read_on_at}
use Rattle.vf_expand.proofs.NoPackedChar.{AtHead, has_nothing_pending, none_advance, none_late, none_stack, none_pending}
use Rattle.vf_expand.proofs.SetNext.{set_alone}
use Rattle.vf_expand.proofs.Steps.{mark_command, mark_step, only_glyph}
use Rattle.vf_expand.proofs.expander.Expander.next_packed_char.Goals as goal
use Rattle.vf_expand.proofs.expander.Expander.next_packed_char.Goals.{then-is_some-via-then-is_some, then-is_some-via-else-is_some+then-self-eq0}

pub returns-then-is_some : goal.returns-then-is_some
returns-then-is_some c =
    let v = value_of_expander c.self.inside in
    let same : c.then-is_some.self.0 ≡ c.args.self.now = elim c.then-is_some.branch [
      | then-is_some-via-then-is_some w ↦ ap (λ p. p.0) w.self-is ∙ c.self.view_is
      | then-is_some-via-else-is_some+then-self-eq0 w ↦ ap (λ p. p.0) w.self-is ∙ c.self.view_is
    ] in
    let none : GivesNoPackedChar (rest_of v) = elim c.then-is_some.branch [
      | then-is_some-via-then-is_some w ↦ none_advance v (sym c.is_some.ensures ∙ w.if-is_some.true)
      | then-is_some-via-else-is_some+then-self-eq0 w ↦ none_late v w.if-self-eq0.true
    ] in
    ((refl, λ _. tt, same), record { passes = tt; fits = tt; none = λ is. subst (λ (w : Expansion). GivesNoPackedChar (rest_of w)) c.self.view_is none })

pub returns-in_default : goal.returns-in_default
returns-in_default c =
    let x = c.self.inside in
    let e = c.current_level-level.ensures in
    let v = value_of_expander x in
    let nothing_pending = has_nothing_pending x.pending (sym c.is_some.ensures ∙ c.if-is_some.false) in
    let nothing : SetsNothing c.current_level-level.result.context (drop x.level.pos c.current_level-level.result.text.now) = c.in_default.ensures.none refl in
    let head : AtHead (context_of x.outer) (value_of_current x.level.current) (drop x.level.pos (level_text x.bytes.now x.level x.outer)) = λ code put first rest begins.
    absurd (rw (e.context, e.text) at nothing code put first rest begins) in
    let none = none_pending v nothing_pending (none_stack x.index.now.reading v.eop x.start x.progress.at x.bytes.now x.level x.outer c.self.invariant.levels head) in
    ((refl, λ _. tt, c.self.view_is), record { passes = tt; fits = tt; none = λ is. subst (λ (w : Expansion). GivesNoPackedChar (rest_of w)) c.self.view_is none })

pub returns-in_default-packed_char : goal.returns-in_default-packed_char
returns-in_default-packed_char c =
    let x = c.self.inside in
    let e = c.current_level-level.ensures in
    let v = value_of_expander x in
    let nothing_pending = has_nothing_pending x.pending (sym c.is_some.ensures ∙ c.if-is_some.false) in
    let same_code : to_z w32 (of_z w32 c.in-Some.code) ≡ c.in-Some.code = omega (arith, ints) in
    let here = subst (SetsNoPackedChar (value_of_current x.level.current)) same_code (c.in_default-packed_char.ensures.none refl) in
    let there = set_alone c.current_level-level.result.context c.current_level-level.result.text.now x.level.pos c.in-Some.code c.in-Some.put c.in-Some.end c.in-Some.ensures.set in
    let alone = rw (e.context, e.text) at there in
    let head : AtHead (context_of x.outer) (value_of_current x.level.current) (drop x.level.pos (level_text x.bytes.now x.level x.outer)) = λ code put first rest begins.
    subst (SetsNoPackedChar (value_of_current x.level.current)) (sym (alone code put first rest begins)) here in
    let none = none_pending v nothing_pending (none_stack x.index.now.reading v.eop x.start x.progress.at x.bytes.now x.level x.outer c.self.invariant.levels head) in
    ((refl, λ _. tt, c.self.view_is), record { passes = tt; fits = tt; none = λ is. subst (λ (w : Expansion). GivesNoPackedChar (rest_of w)) c.self.view_is none })

pub invariant_of-self-2 : goal.invariant_of-self-2
invariant_of-self-2 c =
    let x = c.self.inside in
    let e = c.current_level-level.ensures in
    let set = c.in-Some.ensures.set in
    let has_effect = c.in-Some-packed_char.ensures.sets c.in-Some.put (value_of_place c.current_level-level.result.place) 0 in
    record {
      room = c.self.invariant.room;
      deep = c.self.invariant.deep;
      levels = read_on_at x.bytes.now x.level x.outer c.in-Some.end (character_command c.in-Some.code c.in-Some.put) c.current_level-level.result.text.now e.text set.after set.inside
          set.spelled c.self.invariant.levels x.level.current c.current_level-level.result.context e.context c.in-Some.ensures.readable (has_key x.bytes.now x.level x.outer c.self.invariant.levels);
      pending = c.self.invariant.pending;
      marked = λ h. subst (λ (x : Current). IsSome (font_of x)) (sym has_effect.known) refl;
    }

never : {A : Type 0} → true ≡ false → A
never is = absurd cc

pub returns : goal.returns
returns c =
    let x = c.self.inside in
    let e = c.current_level-level.ensures in
    let set = c.in-Some.ensures.set in
    let found = c.in-Some-packed_char.found in
    let eop = x.start + length x.bytes.now in
    let here = c.current_level-level.result.at in
    let place = value_of_place c.current_level-level.result.place in
    let current = value_of_current x.level.current in
    let room_left = MAX_DEPTH - length x.outer in
    let nothing_pending = has_nothing_pending x.pending (sym c.is_some.ensures ∙ c.if-is_some.false) in
    let room : 0 < x.progress.budget = omega (arith, c.if-self-eq0.false) in
    let next = head_at x.index.now.reading eop x.start x.progress.at x.bytes.now x.level x.outer c.in-Some.end (character_command c.in-Some.code c.in-Some.put) c.current_level-level.result.text.now place here
    room_left e.text e.place e.at refl set.after set.inside set.spelled in
    let same = still_at x.index.now.reading eop x.start x.progress.at x.bytes.now x.level x.outer here e.at current in
    let level = record x.level { pos = c.in-Some.end } in
    let key = arc_value found.key.now in
    let code = to_z w32 (of_z w32 c.in-Some.code) in
    let width = to_z w64 (of_z w64 found.width) in
    let same_code : code ≡ c.in-Some.code = omega (arith, ints) in
    let same_width : found.width ≡ width = omega (arith, ints) in
    let put = c.in-Some.put in
    let flat = Char key (unsigned_abs code) width put in
    let is_flat : Char key (unsigned_abs code) found.width put ≡ flat = ap (λ (w : ℤ). Char key (unsigned_abs code) w put) same_width in
    let has_effect = subst (λ (z : ℤ). IsCharEffect (λ now at others. character (deeper room_left at) place at now z put others) current flat) same_code
    (subst (λ (f : FlatCommand). IsCharEffect (λ now at others. character (deeper room_left at) place at now code put others) current f) is_flat
    (c.in-Some-packed_char.ensures.sets put place room_left)) in
    let mark = mark_command place room_left current flat c.in-Some.code put has_effect in
    let glyph = only_glyph _ current flat mark key (unsigned_abs code) width put found.glyph.now refl c.in-Some-packed_char.ensures.glyph in (
      (
        refl,
        λ _. tt,
        (rw (← c.self.view_is) record {
          key = key;
          one = subst (GivesOne (value_of_expander x) _ flat) glyph
              (mark_step (value_of_expander x) nothing_pending room room_left here place (character_command c.in-Some.code put) (stack_of x.bytes.now x.start level x.outer) next same flat mark);
          place = refl;
        }),
      ),
      record { passes = tt; fits = subst IsNumber same_width c.in-Some-packed_char.ensures.number; none = never },
    )
