use Rattle.std.proofs.Common.{◌≡◌, None, replicate}
use Rattle.pk_runs.proofs.glyph_map.no_glyphs.Given as goal

abbrev pub invariant-loop-code : goal.invariant-loop-code
invariant-loop-code l = l.by_place.items ≡ replicate l._code None
