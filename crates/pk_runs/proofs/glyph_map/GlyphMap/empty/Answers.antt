use Rattle.pk_runs.proofs.GlyphsKept.{nothing_kept}
use Rattle.pk_runs.proofs.glyph_map.GlyphMap.empty.Goals as goal

pub returns : goal.returns
returns c = λ k. nothing_kept k c.in_ok-no_glyphs.field-0.items c.new.result.entries c.in_ok-no_glyphs.ensures c.new.ensures.empty
