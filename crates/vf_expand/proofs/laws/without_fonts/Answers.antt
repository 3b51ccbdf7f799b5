use Rattle.vf_expand.proofs.WorkedFaults.{fonts_of_packets_are_worked, fonts_of_pages_are_worked}
use Rattle.vf_expand.proofs.laws.without_fonts.Goals as goal

pub returns : goal.returns
returns c = record { pages = fonts_of_pages_are_worked; packets = fonts_of_packets_are_worked }
