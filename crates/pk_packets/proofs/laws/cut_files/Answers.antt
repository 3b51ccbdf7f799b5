use Rattle.pk_packets.proofs.Cuts.{cut_files_are_short}
use Rattle.pk_packets.proofs.laws.cut_files.Goals as goal

pub returns-clause-cut : goal.returns-clause-cut
returns-clause-cut c = cut_files_are_short
