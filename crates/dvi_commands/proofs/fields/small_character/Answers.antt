use Rattle.std.proofs.Common.{arith}
use Rattle.std.proofs.lemmas.Int.{ints}
use Rattle.dvi_commands.proofs.Numbered.{small_set}
use Rattle.dvi_commands.proofs.fields.small_character.Goals as goal

pub returns : goal.returns
returns c = small_set c.args.opcode _ (omega arith) (omega (arith, ints, c.from.ensures))
