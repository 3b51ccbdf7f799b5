use Rattle.std.proofs.Common.{◌≡◌, ◌<◌, ◌+◌, true, List, Option, Some, None, ap, subst, arith, drop}
use Rattle.std.specs.Prelude.{MatchOption, is_some}
use Rattle.dvi_commands.specs.Reading.{placed_from}
use Rattle.vf_expand.proofs.Virtual.{at_none}
use Rattle.vf_expand.specs.Expansion.{IsEnded}
use Rattle.vf_expand.specs.Levels.{value_of_packet, stack_of}
use Rattle.vf_expand.specs.Effects.{value_of_current}
use Rattle.vf_expand.specs.View.{value_of_expander}
use Rattle.vf_expand.specs.declared.outer_levels.Level.{Level}
use Rattle.vf_expand.proofs.Steps.{end_step, late_packet_step, leave_step}
use Rattle.vf_expand.proofs.expander.Expander.ended.Goals as goal

pub returns-then-is_none-clause-step : goal.returns-then-is_none-clause-step
returns-then-is_none-clause-step c =
    let x = c.self.inside in
    let nothing_pending = rw (← c.self.view_is) at c.requires.nothing_pending in
    let ended = rw (← c.self.view_is) at c.requires.ended in
    let none = at_none c.top.result _ _ c.if-is_none.ensures c.top.ensures in
    let stack = ap (λ (outer : List Level). stack_of x.bytes.now x.start x.level outer) none in
    rw c.halted_at-self-inside.ensures (rw (← c.self.view_is)
    (end_step (value_of_expander x) nothing_pending (placed_from (x.start + x.level.pos) (drop x.level.pos x.bytes.now)) stack (subst IsEnded stack ended)))

there : {X : Type 0} (r : Option X) (P : Type 0) (Q : X → Type 0) → is_some r ≡ true → MatchOption r P Q → (top : X) × Q top
there None P Q e h = absurd cc
there (Some top) P Q e h = (top, h)

pub returns-then-self-eq0-clause-step : goal.returns-then-self-eq0-clause-step
returns-then-self-eq0-clause-step c =
    let x = c.self.inside in
    let nothing_pending = rw (← c.self.view_is) at c.requires.nothing_pending in
    let outside = there c.top.result _ _ c.if-is_none.ensures c.top.ensures in
    let stack = ap (λ (outer : List Level). stack_of x.bytes.now x.start x.level outer) outside.1.1 in
    rw c.halted_at-self-inside-then-self-eq0.ensures (rw (← c.self.view_is)
    (late_packet_step (value_of_expander x) nothing_pending (value_of_packet (value_of_current outside.0.now.current) x.level) (stack_of x.bytes.now x.start outside.0.now outside.1.0) stack c.if-self-eq0.true))

pub returns-clause-step : goal.returns-clause-step
returns-clause-step c =
    let x = c.self.inside in
    let nothing_pending = rw (← c.self.view_is) at c.requires.nothing_pending in
    let ended = rw (← c.self.view_is) at c.requires.ended in
    let parts = c.in-Some.ensures in
    let stack = ap (λ (outer : List Level). stack_of x.bytes.now x.start x.level outer) parts in
    let none = subst IsEnded stack ended in
    let room : 0 < x.progress.budget = omega (arith, c.if-self-eq0.false) in
    rw (c.after_flat-self-inside.ensures, c.after_packet-self-inside.ensures.value) (rw (← c.self.view_is)
    (None, leave_step (value_of_expander x) nothing_pending (value_of_packet (value_of_current c.in-Some.outside.current) x.level) (stack_of x.bytes.now x.start c.in-Some.outside c.pop.new.self) stack room none))
