use Rattle.std.proofs.Common.{length}
use Rattle.vf_reader.proofs.SoFar.{IsReadTo}
use Rattle.vf_reader.proofs.font.VfFont.of_items.Given as goal

abbrev pub invariant-loop-locals : goal.invariant-loop-locals
invariant-loop-locals l = record { read : IsReadTo l.fn.bytes l.items l.packets l.locals }

abbrev pub decreases-loop-locals : goal.decreases-loop-locals
decreases-loop-locals l = length l.items
