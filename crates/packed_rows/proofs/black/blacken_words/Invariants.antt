use Rattle.packed_rows.proofs.Blackened.{IsBlackened}
use Rattle.packed_rows.proofs.black.blacken_words.Given as goal

abbrev pub invariant-loop-y : goal.invariant-loop-y
invariant-loop-y l = IsBlackened l.stride l.fn.columns.from l.fn.columns.until l.fn.rows.from l.y l.initial.bytes l.bytes
