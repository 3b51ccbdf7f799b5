use Rattle.std.proofs.Common.{length, ap, sym, ◌∙◌}
use Rattle.packed_rows.specs.Bitmap.{Bitmap}
use Rattle.packed_rows.proofs.Lists.{length-from_fn}
use Rattle.packed_rows.proofs.padded.PaddedBitmap.height.Goals as goal

pub returns-clause-rows : goal.returns-clause-rows
returns-clause-rows c = sym (ap (λ (p : Bitmap). length p.rows) c.self.view_is) ∙ length-from_fn c.self.inside.height _
