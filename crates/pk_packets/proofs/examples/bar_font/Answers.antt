use Rattle.pk_packets.proofs.BarFont.{found, identifier, length_of_packet, not_found, opcode_after, read, short}
use Rattle.pk_packets.proofs.examples.bar_font.Goals as goal

pub returns : goal.returns
returns c = record { read = read; glyph = found; no_glyph = not_found; short = short; preamble = identifier; length = length_of_packet; undefined = opcode_after }
