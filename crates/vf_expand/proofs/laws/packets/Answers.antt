use Rattle.vf_expand.proofs.Packets.{characters_move_as_packed, packets_are_balanced}
use Rattle.vf_expand.proofs.laws.packets.Goals as goal

pub returns : goal.returns
returns c = record { balanced = packets_are_balanced; moved = characters_move_as_packed }
