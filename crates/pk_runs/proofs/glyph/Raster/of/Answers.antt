use Rattle.pk_runs.proofs.RowsGiven.{given_rows}
use Rattle.pk_runs.proofs.glyph.Raster.of.Goals as goal

pub invariant_of-result : goal.invariant_of-result
invariant_of-result c = given_rows c.args.rows.now c.paint_rows.new.bits c.paint_rows.ensures c.requires.narrow c.requires.low c.requires.equal
