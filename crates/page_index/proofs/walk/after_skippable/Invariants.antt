use Rattle.std.proofs.Common.{◌-◌, length}
use Rattle.page_index.specs.Walked.{ArePassed}
use Rattle.page_index.proofs.walk.after_skippable.Given as goal

abbrev pub invariant-loop-next : goal.invariant-loop-next
invariant-loop-next l = ArePassed l.bytes l.at l.end

abbrev pub decreases-loop-next : goal.decreases-loop-next
decreases-loop-next l = length l.bytes - l.end
