use Rattle.vf_reader.proofs.Kept.{nothing_kept}
use Rattle.vf_reader.proofs.span_map.SpanMap.empty.Goals as goal

pub returns : goal.returns
returns c = λ k. nothing_kept k c.in_ok-no_spans.field-0.items c.new.result.entries c.in_ok-no_spans.ensures c.new.ensures.empty
