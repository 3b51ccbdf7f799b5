use Rattle.dvi_commands.proofs.Shortest.{shortest_is_least}
use Rattle.dvi_commands.proofs.laws.shortest_spelling.Goals as goal

pub returns : goal.returns
returns c = shortest_is_least
