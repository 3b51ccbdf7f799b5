use Rattle.drift_rules.proofs.Held.{zeros_are_held}
use Rattle.drift_rules.proofs.pen.Pen.new.Goals as goal

pub invariant_of-result : goal.invariant_of-result
invariant_of-result c = record { now = zeros_are_held c.args.conv; saved = rw c.new.ensures tt }
