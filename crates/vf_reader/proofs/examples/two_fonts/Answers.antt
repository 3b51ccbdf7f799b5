use Rattle.std.proofs.Common.{refl}
use Rattle.vf_reader.proofs.SmallFonts.{cut, read}
use Rattle.vf_reader.proofs.examples.two_fonts.Goals as goal

pub returns : goal.returns
returns c = record { read = read; packet = refl; no_packet = refl; locals = refl; second = refl; short = cut }
