use Rattle.std.proofs.Common.{◌≡◌, ◌∙◌, refl, sym, ap, subst}
use Rattle.std.specs.Arc.{arc_value}
use Rattle.outside.specs.declared.keys.FontKey.{FontKey}
use Rattle.vf_expand.specs.Course as course
use Rattle.vf_expand.specs.declared.current.Current.{Current}
use Rattle.vf_expand.specs.declared.current.Current.TheVariants as code
use Rattle.vf_expand.specs.Effects.{HasKey, value_of_current}
use Rattle.vf_expand.specs.Expansion.{Stack, rest_of}
use Rattle.vf_expand.proofs.Heads.{stack_same}
use Rattle.vf_expand.proofs.Levels.{has_key, same_levels}
use Rattle.vf_expand.specs.View.{value_of_expander}
use Rattle.vf_expand.proofs.Looks.{answered_rest, answered_asks, answered_fewer, answered_unmarked, key_wanted}
use Rattle.vf_expand.proofs.expander.Expander.answer.Goals as goal

pub returns-clause-rest : goal.returns-clause-rest
returns-clause-rest c =
    let x = c.self.inside in
    let look = rw (← c.self.view_is) at c.requires in
    let chosen = ap value_of_current (sym c.replace-current.ensures.value ∙ c.in-Chosen.is) in
    let now = code.Known c.in-Chosen.key c.args.font in
    let same = stack_same x.bytes.now x.start x.level now x.outer in
    rw (← c.self.view_is) (ap (λ (s : Stack). rest_of (record (value_of_expander x) { current = value_of_current now; stack = s })) same
    ∙ answered_rest (value_of_expander x) (arc_value c.in-Chosen.key) chosen look (arc_value c.args.font))

-- the key that was waited for is that of the current font, whatever was found
pub invariant_of-self : goal.invariant_of-self
invariant_of-self c =
    let x = c.self.inside in
    let chosen = ap value_of_current (sym c.replace-current.ensures.value ∙ c.in-Chosen.is) in
    let key = subst HasKey chosen (has_key x.bytes.now x.level x.outer c.self.invariant.levels) in
    record {
      room = c.self.invariant.room;
      deep = c.self.invariant.deep;
      levels = same_levels x.bytes.now x.level (code.Known c.in-Chosen.key c.args.font) x.outer key c.self.invariant.levels;
      pending = c.self.invariant.pending;
      marked = λ h. refl;
    }

pub returns-clause-unmarked : goal.returns-clause-unmarked
returns-clause-unmarked c =
    let x = c.self.inside in
    let look = rw (← c.self.view_is) at c.requires in
    let chosen = ap value_of_current (sym c.replace-current.ensures.value ∙ c.in-Chosen.is) in
    answered_unmarked (value_of_expander x) (arc_value c.in-Chosen.key) chosen look (arc_value c.args.font) c.self.invariant.marked

pub returns-clause-asks : goal.returns-clause-asks
returns-clause-asks c =
    let x = c.self.inside in
    let look = rw (← c.self.view_is) at c.requires in
    let chosen = ap value_of_current (sym c.replace-current.ensures.value ∙ c.in-Chosen.is) in
    rw (← c.self.view_is) (answered_asks (value_of_expander x) (arc_value c.in-Chosen.key) chosen look)

pub returns-clause-fewer : goal.returns-clause-fewer
returns-clause-fewer c =
    let x = c.self.inside in
    let look = rw (← c.self.view_is) at c.requires in
    let chosen = ap value_of_current (sym c.replace-current.ensures.value ∙ c.in-Chosen.is) in
    rw (← c.self.view_is) (answered_fewer (value_of_expander x) (arc_value c.in-Chosen.key) chosen look)

-- a font that waits to be looked up is one of the code's that was chosen
not_chosen : (current : Current) (k : FontKey) → value_of_current current ≡ course.Chosen k → ((key : _) → current ≡ code.Chosen key → ⊥) → ⊥
not_chosen code.NoFont k chosen other = absurd cc
not_chosen (code.Chosen key) k chosen other = other key refl
not_chosen (code.Known key font) k chosen other = absurd cc

pub unreachable-requires : goal.unreachable-requires
unreachable-requires c =
    let x = c.self.inside in
    let look = rw (← c.self.view_is) at c.requires in
    let wanted = key_wanted (value_of_expander x) look in
    not_chosen c.replace-current.result wanted.0 (ap value_of_current c.replace-current.ensures.value ∙ wanted.1) c.in_default.not-Chosen
