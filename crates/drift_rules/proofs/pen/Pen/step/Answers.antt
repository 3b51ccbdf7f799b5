use Rattle.drift_rules.specs.Position.{value_of_flat, KeepsNear}
use Rattle.drift_rules.proofs.Near.{steps_keep_near}
use Rattle.drift_rules.proofs.Held.{held_is_near}
use Rattle.drift_rules.proofs.pen.Pen.step.Goals as goal

pub returns-clause-near : goal.returns-clause-near
returns-clause-near c =
    let before : KeepsNear c.args.self.now.conv c.args.self.now.state = rw (← c.self.view_is) (held_is_near c.self.inside.conv _ c.self.invariant) in
    rw c.change.ensures.same_conversion (steps_keep_near _ c.args.self.now.state c.change.new.self.state (value_of_flat c.args.flat.now) before c.in_ok-change.ensures.moved)
