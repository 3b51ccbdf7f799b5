use Rattle.font_decode.proofs.Programs.{packets_are_balanced}
use Rattle.font_decode.proofs.laws.packets.Goals as goal

pub returns : goal.returns
returns c = record { balanced = packets_are_balanced }
