use Rattle.pk_runs.proofs.Weighed.{nothing_weighed}
use Rattle.pk_runs.proofs.table.GlyphTable.empty.Goals as goal

pub invariant_of-result : goal.invariant_of-result
invariant_of-result c = nothing_weighed c.in_ok-empty.field-0 c.in_ok-empty.ensures
