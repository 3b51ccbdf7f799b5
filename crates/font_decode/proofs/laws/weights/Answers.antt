use Rattle.font_decode.proofs.Weights.{alike_weigh_the_same, one_weight_in_a_library, each_key_has_a_weight}
use Rattle.font_decode.proofs.laws.weights.Goals as goal

pub returns-clause-alike : goal.returns-clause-alike
returns-clause-alike c = alike_weigh_the_same

pub returns-clause-one : goal.returns-clause-one
returns-clause-one c = one_weight_in_a_library

pub returns-clause-each : goal.returns-clause-each
returns-clause-each c = each_key_has_a_weight
