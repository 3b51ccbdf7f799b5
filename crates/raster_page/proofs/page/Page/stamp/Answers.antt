use Rattle.std.proofs.Common.{ap, ap₂, ◌∙◌, w64}
use Rattle.std.proofs.lemmas.Int.{to_z-of_z}
use Rattle.packed_rows.specs.Bitmap.{Bitmap, is_black}
use Rattle.raster_page.specs.Ink.{Dots, with_mark}
use Rattle.raster_page.proofs.MarkedPages.{marks_add, marked_dot}
use Rattle.raster_page.proofs.page.Page.stamp.Goals as goal

pub returns-clause-ink : goal.returns-clause-ink
returns-clause-ink c =
    c.stamp.ensures ∙ ap₂ (λ a b. with_mark c.self.inside.dots (Dots c.args.bitmap.now a b)) (to_z-of_z w64 c.args.x c.ranges.x) (to_z-of_z w64 c.args.y c.ranges.y)
    ∙ ap (λ (p : Bitmap). with_mark p (Dots c.args.bitmap.now c.args.x c.args.y)) c.self.view_is

pub returns-clause-dots : goal.returns-clause-dots
returns-clause-dots c = λ x y in_row on_page.
    ap (λ (p : Bitmap). is_black p x y) (returns-clause-ink c) ∙ marked_dot c.args.self.now (Dots c.args.bitmap.now c.args.x c.args.y) x y in_row on_page

pub returns-clause-marks : goal.returns-clause-marks
returns-clause-marks c = λ marks e.
    returns-clause-ink c ∙ ap (λ (p : Bitmap). with_mark p (Dots c.args.bitmap.now c.args.x c.args.y)) e
    ∙ marks_add c.args.self.now.width c.args.self.now.height marks (Dots c.args.bitmap.now c.args.x c.args.y)
