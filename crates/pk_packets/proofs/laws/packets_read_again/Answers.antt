use Rattle.pk_packets.proofs.Forms.{extended_packets_are_read_again, long_packets_are_read_again, short_packets_are_read_again}
use Rattle.pk_packets.proofs.laws.packets_read_again.Goals as goal

pub returns : goal.returns
returns c = record { short = short_packets_are_read_again; extended = extended_packets_are_read_again; long = long_packets_are_read_again }
