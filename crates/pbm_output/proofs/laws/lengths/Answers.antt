use Rattle.pbm_output.proofs.Joined.{texts_have_their_length}
use Rattle.pbm_output.proofs.laws.lengths.Goals as goal

pub returns : goal.returns
returns c = texts_have_their_length
