use Rattle.dvi_commands.proofs.Commands.{commands_first, commands_none, placed_first, placed_none}
use Rattle.dvi_commands.proofs.laws.first_command.Goals as goal

pub returns-clause-placed : goal.returns-clause-placed
returns-clause-placed c = placed_first

pub returns-clause-commands : goal.returns-clause-commands
returns-clause-commands c = commands_first

pub returns-clause-end : goal.returns-clause-end
returns-clause-end c = (placed_none, commands_none)
