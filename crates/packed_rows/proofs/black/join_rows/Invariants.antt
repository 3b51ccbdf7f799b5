use Rattle.std.proofs.Common.{ℕ, ◌<◌, get_or}
use Rattle.packed_rows.proofs.JoinedRows.{IsJoined}
use Rattle.packed_rows.proofs.black.join_rows.Given as goal

abbrev pub invariant-loop-y : goal.invariant-loop-y
invariant-loop-y l = record {
  joined : IsJoined l.stride l.word l.fn.rows.from l.y l.initial.bytes l.bytes;
  small : (i : ℕ) → get_or l.bytes i 0 < 256;
}
