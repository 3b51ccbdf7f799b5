use Rattle.std.proofs.Common.{arith}
use Rattle.std.proofs.lemmas.Int.{ints}
use Rattle.dvi_commands.proofs.Numbered.{small_font}
use Rattle.dvi_commands.proofs.fields.command_alone.Goals as goal

pub returns-in-171-to-234 : goal.returns-in-171-to-234
returns-in-171-to-234 c = small_font c.args.opcode _ (omega arith) (omega arith) (omega (arith, ints, c.from.ensures))
