use Rattle.dvi_commands.proofs.Commands.{written_is_read_back}
use Rattle.dvi_commands.proofs.laws.written_commands.Goals as goal

pub returns : goal.returns
returns c = written_is_read_back
