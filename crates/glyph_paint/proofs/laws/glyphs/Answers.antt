use Rattle.glyph_paint.proofs.Rasters.{glyphs_commute, glyphs_beside_leave_the_page, black_glyphs_are_rules}
use Rattle.glyph_paint.proofs.laws.glyphs.Goals as goal

pub returns-clause-commute : goal.returns-clause-commute
returns-clause-commute c = glyphs_commute

pub returns-clause-beside : goal.returns-clause-beside
returns-clause-beside c = glyphs_beside_leave_the_page

pub returns-clause-black : goal.returns-clause-black
returns-clause-black c = black_glyphs_are_rules
