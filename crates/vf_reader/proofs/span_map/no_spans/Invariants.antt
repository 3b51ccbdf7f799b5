use Rattle.std.proofs.Common.{◌≡◌, None, replicate}
use Rattle.vf_reader.proofs.span_map.no_spans.Given as goal

abbrev pub invariant-loop-code : goal.invariant-loop-code
invariant-loop-code l = l.table.items ≡ replicate l._code None
