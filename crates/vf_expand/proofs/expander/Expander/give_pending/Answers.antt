use Rattle.std.proofs.Common.{◌<◌, None, Option, subst, arith}
use Rattle.std.specs.Prelude.{IfSome}
use Rattle.drift_rules.specs.Bounds.{IsInReach}
use Rattle.vf_expand.specs.Expansion.{flat_of_pending}
use Rattle.vf_expand.specs.View.{value_of_expander}
use Rattle.vf_expand.specs.declared.pending.Pending.{Pending}
use Rattle.vf_expand.proofs.Steps.{late_pending_step, pending_step}
use Rattle.vf_expand.proofs.expander.Expander.give_pending.Goals as goal

pub returns-then-self-eq0-clause-step : goal.returns-then-self-eq0-clause-step
returns-then-self-eq0-clause-step c =
    let x = c.self.inside in
    let there = rw (← c.self.view_is) at c.requires in
    rw c.halted_at-self-inside.ensures (rw (← c.self.view_is) (late_pending_step (value_of_expander x) c.args.pending there c.if-self-eq0.true))

pub returns-clause-step : goal.returns-clause-step
returns-clause-step c =
    let x = c.self.inside in
    let there = rw (← c.self.view_is) at c.requires in
    let room : 0 < x.progress.budget = omega (arith, c.if-self-eq0.false) in
    rw (c.after_flat-self-inside.ensures, c.flat.ensures) (rw (← c.self.view_is) (None, pending_step (value_of_expander x) c.args.pending there room))

pub returns-clause-fits : goal.returns-clause-fits
returns-clause-fits c =
    let there = rw (← c.self.view_is) at c.requires in
    rw c.flat.ensures (subst (λ (o : Option Pending). IfSome o (λ p. IsInReach (flat_of_pending p))) there c.self.invariant.pending)
