use Rattle.vf_reader.proofs.Balanced.{packets_are_balanced}
use Rattle.vf_reader.proofs.laws.packets.Goals as goal

pub returns : goal.returns
returns c = record { balanced = packets_are_balanced }
