use Rattle.std.proofs.Common.{◌<◌, length, drop, arith, length-drop}
use Rattle.dvi_commands.specs.Spelling.{value_of_command}
use Rattle.dvi_commands.proofs.Commands.{commands_on, never_refused, placed_on, reads_on}
use Rattle.dvi_commands.proofs.reader.command_at.Goals as goal

pub unreachable-requires : goal.unreachable-requires
unreachable-requires c =
    let some : 0 < length (drop c.args.at c.args.bytes.now) = omega (arith, length-drop c.args.at c.args.bytes.now) in
    never_refused c.args.context (drop c.args.at c.args.bytes.now) c.in-Err.field-0 some c.requires.readable c.in-Err.ensures.refused

pub returns-clause-readable : goal.returns-clause-readable
returns-clause-readable c = reads_on c.args.context c.args.bytes.now c.args.at c.in-Ok.read.1 _ c.in-Ok.ensures.place.0 c.in-Ok.ensures.read c.requires.readable

pub returns-clause-placed : goal.returns-clause-placed
returns-clause-placed c start = placed_on c.args.bytes.now c.args.at c.in-Ok.read.1 start (value_of_command c.in-Ok.read.0) c.in-Ok.ensures.place.0 c.in-Ok.ensures.place.1 c.in-Ok.ensures.read

pub returns-clause-commands : goal.returns-clause-commands
returns-clause-commands c = commands_on c.args.bytes.now c.args.at c.in-Ok.read.1 (value_of_command c.in-Ok.read.0) c.in-Ok.ensures.place.0 c.in-Ok.ensures.read
