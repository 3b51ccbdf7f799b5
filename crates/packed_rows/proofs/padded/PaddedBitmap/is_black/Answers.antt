use Rattle.std.proofs.Common.{◌∙◌}
use Rattle.packed_rows.proofs.StoredBitmaps.{dot_in_row}
use Rattle.packed_rows.proofs.padded.PaddedBitmap.is_black.Goals as goal

pub returns : goal.returns
returns c = c.is_black.ensures ∙ dot_in_row c.args.self.now c.args.self.now.width c.args.x c.args.y c.row.result.now c.row.ensures.dots c.requires.in_row
