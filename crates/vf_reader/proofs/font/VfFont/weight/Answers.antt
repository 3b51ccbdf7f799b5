use Rattle.std.proofs.Common.{◌∙◌, sym, ap}
use Rattle.vf_reader.specs.Weights.{packets_weight}
use Rattle.vf_reader.proofs.Weighed.{packets_weigh}
use Rattle.vf_reader.proofs.font.VfFont.weight.Goals as goal

pub returns : goal.returns
returns c = c.weight.ensures ∙ (sym (packets_weigh (record { bytes = c.self.inside.bytes.items; spans = c.self.inside.packets; locals = c.self.inside.locals }) c.self.invariant) ∙ ap packets_weight c.self.view_is)
