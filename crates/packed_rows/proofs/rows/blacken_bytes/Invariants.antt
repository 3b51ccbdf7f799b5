use Rattle.packed_rows.proofs.Blackened.{IsBlackened}
use Rattle.packed_rows.proofs.rows.blacken_bytes.Given as goal

abbrev pub invariant-loop-y : goal.invariant-loop-y
invariant-loop-y l = IsBlackened l.stride l.columns.from l.columns.until l.fn.rows.from l.y l.initial.bytes l.bytes
