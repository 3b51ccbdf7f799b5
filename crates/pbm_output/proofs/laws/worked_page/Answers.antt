use Rattle.std.proofs.Common.{refl}
use Rattle.std.specs.Fmt.{digits}
use Rattle.pbm_output.proofs.laws.worked_page.Goals as goal

pub returns : goal.returns
unfolding digits
returns c = refl
