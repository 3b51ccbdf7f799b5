use Rattle.packed_rows.proofs.Copied.{IsCopied}
use Rattle.packed_rows.proofs.rows.copy_rows.Given as goal

abbrev pub invariant-loop-to : goal.invariant-loop-to
invariant-loop-to l = IsCopied l.stride l.fn.rows.from l.to l.initial.bytes l.bytes
