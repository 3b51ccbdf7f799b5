use Rattle.vf_reader.proofs.SmallFonts.{command, cut_motion, misplaced, motion, other_font, pop, preamble, push}
use Rattle.vf_reader.proofs.examples.faults.Goals as goal

pub returns : goal.returns
returns c = record { preamble = preamble; misplaced = misplaced; command = command; cut = cut_motion; pop = pop; push = push; motion = motion; other_font = other_font }
