use Rattle.std.proofs.Common.{ap, ◌∙◌, w64}
use Rattle.std.proofs.lemmas.Int.{to_z-of_z}
use Rattle.packed_rows.specs.Bitmap.{Bitmap, is_black}
use Rattle.raster_page.specs.Ink.{Bar, with_mark}
use Rattle.raster_page.proofs.MarkedPages.{marks_add, ruled, same_cut, marked_dot}
use Rattle.raster_page.proofs.page.Page.rule.Goals as goal

pub returns-clause-bar : goal.returns-clause-bar
returns-clause-bar c =
    c.blacken.ensures
    ∙ ruled c.self.inside.dots c.clipped-columns.result.from c.clipped-columns.result.until c.clipped-rows.result.from c.clipped-rows.result.until c.args.x c.args.y c.args.w c.args.h
    (same_cut c.clipped-columns.result.from c.clipped-columns.result.until c.width.result c.self.inside.dots.width _ c.args.x _ c.args.w c.width.ensures.value (to_z-of_z w64 c.args.x c.ranges.x) (to_z-of_z w64 c.args.w c.ranges.w) c.clipped-columns.ensures.covered)
    (same_cut c.clipped-rows.result.from c.clipped-rows.result.until c.height.result c.self.inside.dots.height _ c.args.y _ c.args.h c.height.ensures.value (to_z-of_z w64 c.args.y c.ranges.y) (to_z-of_z w64 c.args.h c.ranges.h) c.clipped-rows.ensures.covered)
    ∙ ap (λ (p : Bitmap). with_mark p (Bar c.args.x c.args.y c.args.w c.args.h)) c.self.view_is

pub returns-clause-dots : goal.returns-clause-dots
returns-clause-dots c = λ x y in_row on_page.
    ap (λ (p : Bitmap). is_black p x y) (returns-clause-bar c) ∙ marked_dot c.args.self.now (Bar c.args.x c.args.y c.args.w c.args.h) x y in_row on_page

pub returns-clause-marks : goal.returns-clause-marks
returns-clause-marks c = λ marks e.
    returns-clause-bar c ∙ ap (λ (p : Bitmap). with_mark p (Bar c.args.x c.args.y c.args.w c.args.h)) e
    ∙ marks_add c.args.self.now.width c.args.self.now.height marks (Bar c.args.x c.args.y c.args.w c.args.h)
