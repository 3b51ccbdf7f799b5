use Rattle.std.proofs.Common.{◌∙◌}
use Rattle.font_decode.proofs.Weights.{generic_weight}
use Rattle.font_decode.proofs.decoding.decode_gf.Goals as goal

pub new-requires-clause-weight : goal.new-requires-clause-weight
new-requires-clause-weight c = c.weight-weight.ensures ∙ generic_weight c.in-Ok.glyphs
