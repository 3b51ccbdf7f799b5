use Rattle.std.proofs.Common.{◌-◌, length}
use Rattle.page_index.specs.Walked.{IsReadTo}
use Rattle.page_index.proofs.read.walked.Given as goal

abbrev pub invariant-loop-walk : goal.invariant-loop-walk
invariant-loop-walk l = IsReadTo l.bytes l.first l.walk.progress l.walk.pages.items l.walk.fonts

abbrev pub decreases-loop-walk : goal.decreases-loop-walk
decreases-loop-walk l = length l.bytes - l.walk.progress.at
