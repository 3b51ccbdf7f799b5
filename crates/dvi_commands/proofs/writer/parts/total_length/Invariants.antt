use Rattle.std.proofs.Common.{◌≡◌, length, take}
use Rattle.dvi_commands.specs.Writing.{joined}
use Rattle.dvi_commands.proofs.writer.parts.total_length.Given as goal

abbrev pub invariant-loop-part : goal.invariant-loop-part
invariant-loop-part l = l.total ≡ length (joined (take l.part-index l.parts))
