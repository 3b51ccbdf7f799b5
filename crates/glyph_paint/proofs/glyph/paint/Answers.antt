use Rattle.std.proofs.Common.{ap, ap₂, w64, ◌∙◌}
use Rattle.std.proofs.lemmas.Int.{to_z-of_z}
use Rattle.packed_rows.specs.Bitmap.{Bitmap, is_black}
use Rattle.raster_page.specs.Ink.{Dots, with_mark}
use Rattle.raster_page.proofs.MarkedPages.{marks_add, marked_dot}
use Rattle.glyph_paint.proofs.glyph.paint.Goals as goal

pub returns-clause-ink : goal.returns-clause-ink
returns-clause-ink c =
    c.stamp.ensures.ink ∙ ap₂ (λ a b. with_mark c.args.page.now (Dots c.bits.result.now a b)) (to_z-of_z w64 c.args.x c.ranges.x) (to_z-of_z w64 c.args.y c.ranges.y)
    ∙ ap (λ (r : Bitmap). with_mark c.args.page.now (Dots r c.args.x c.args.y)) c.bits.ensures.value

pub returns-clause-dots : goal.returns-clause-dots
returns-clause-dots c = λ x y in_row on_page.
    ap (λ (p : Bitmap). is_black p x y) (returns-clause-ink c) ∙ marked_dot c.args.page.now (Dots c.args.raster.now c.args.x c.args.y) x y in_row on_page

pub returns-clause-width : goal.returns-clause-width
returns-clause-width c = ap (λ (p : Bitmap). p.width) (returns-clause-ink c)

pub returns-clause-height : goal.returns-clause-height
returns-clause-height c = ap (λ (p : Bitmap). p.height) (returns-clause-ink c)

pub returns-clause-marks : goal.returns-clause-marks
returns-clause-marks c = λ marks e.
    returns-clause-ink c ∙ ap (λ (p : Bitmap). with_mark p (Dots c.args.raster.now c.args.x c.args.y)) e
    ∙ marks_add c.args.page.now.width c.args.page.now.height marks (Dots c.args.raster.now c.args.x c.args.y)
