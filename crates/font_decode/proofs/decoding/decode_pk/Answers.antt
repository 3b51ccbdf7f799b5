use Rattle.std.proofs.Common.{◌∙◌}
use Rattle.font_decode.proofs.Weights.{packed_weight}
use Rattle.font_decode.proofs.decoding.decode_pk.Goals as goal

pub new-requires-clause-weight : goal.new-requires-clause-weight
new-requires-clause-weight c = c.weight-weight.ensures ∙ packed_weight c.in-Ok.glyphs
