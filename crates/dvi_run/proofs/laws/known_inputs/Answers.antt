use Rattle.dvi_run.proofs.KnownInputs.{of_known_inputs}
use Rattle.dvi_run.proofs.laws.known_inputs.Goals as goal

pub returns : goal.returns
returns g c = λ task a b o p n m before after history status. of_known_inputs _ status
