use Rattle.std.proofs.Common.{◌≡◌, ◌+◌, ◌≤◌, ◌++◌, length, take, vec_len, vec_capacity}
use Rattle.dvi_commands.specs.Writing.{joined}
use Rattle.dvi_commands.proofs.writer.parts.append.Given as goal

abbrev pub invariant-loop-part : goal.invariant-loop-part
invariant-loop-part l = record {
  items : l.out.items ≡ l.fn.out.items ++ joined (take l.part-index l.parts);
  len : vec_len l.out ≡ vec_len l.fn.out + length (joined (take l.part-index l.parts));
  room : vec_len l.fn.out + length (joined l.parts) ≤ vec_capacity l.out;
}
