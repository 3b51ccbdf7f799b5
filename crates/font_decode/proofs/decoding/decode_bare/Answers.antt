use Rattle.font_decode.proofs.Weights.{bare_weight}
use Rattle.font_decode.proofs.decoding.decode_bare.Goals as goal

pub new-requires-clause-weight : goal.new-requires-clause-weight
new-requires-clause-weight c = bare_weight
