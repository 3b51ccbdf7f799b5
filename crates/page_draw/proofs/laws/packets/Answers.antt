use Rattle.page_draw.proofs.Packets.{fonts_packets_are_set_in_place, packets_are_set_in_place}
use Rattle.page_draw.proofs.laws.packets.Goals as goal

pub returns : goal.returns
returns c = record { in_place = packets_are_set_in_place; of_fonts = fonts_packets_are_set_in_place }
