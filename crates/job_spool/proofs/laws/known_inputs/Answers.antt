use Rattle.std.proofs.Common.{refl}
use Rattle.job_spool.proofs.KnownInputs.{of_known_inputs}
use Rattle.job_spool.proofs.laws.known_inputs.Goals as goal

pub returns : goal.returns
returns g c = λ settings known count jobs now d before after kept k lt. of_known_inputs settings known _ kept k lt refl
