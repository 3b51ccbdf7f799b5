use Rattle.std.proofs.Common.{◌≡◌, ◌∙◌, ℤ, pos, ◌+ℤ◌, ◌-ℤ◌, [], ◌∷◌, ap, ap₂, sym, subst, arith, rules, Option, Some, w32, to_z, of_z}
use Rattle.std.specs.Prelude.{IfSome}
use Rattle.std.specs.Option.{option_map}
use Rattle.std.proofs.lemmas.Int.{ints}
use Rattle.drift_rules.specs.Bounds.{IsPaintable, IsRectangle}
use Rattle.drift_rules.specs.declared.flat.Mark.{Mark}
use Rattle.drift_rules.specs.declared.flat.Mark.TheVariants as mark
use Rattle.pk_runs.specs.declared.glyph.Glyph.{Glyph}
use Rattle.raster_page.specs.Ink.{Bar, Dots}
use Rattle.page_draw.specs.Sheets.{dots_of, inks_of}
use Rattle.page_draw.proofs.Inks.{inked_by, kept, kept_sum}
use Rattle.page_draw.proofs.flats.ink.Goals as goal

pub returns-in-Some-Rule : goal.returns-in-Some-Rule
returns-in-Some-Rule c =
    let x = c.in-Some-Rule.x in
    let y = c.in-Some-Rule.y in
    let w = c.in-Some-Rule.w in
    let h = c.in-Some-Rule.h in
    let sheet = c.args.sheet.now in
    let glyph = option_map (λ g. g.now) c.args.glyph in
    let is : c.args.mark ≡ Some (mark.Rule x y w h) = first_of (cc, search rules) in
    let near : IsRectangle x y w h = subst (λ (m : Option Mark). IfSome m IsPaintable) is c.requires.mark in
    let first : kept c.from.result ≡ pos sheet.left = omega (arith, ints) in
    let second : kept c.from-in-Some-Rule.result ≡ pos sheet.top = omega (arith, ints) in
    let same_x : kept x ≡ x = omega (arith, ints) in
    let same_y : kept y ≡ y = omega (arith, ints) in
    let column : kept (kept x +ℤ kept c.from.result) ≡ x +ℤ pos sheet.left = ap₂ (λ (a b : ℤ). kept (a +ℤ b)) same_x first ∙ kept_sum x sheet.left near.left c.requires.sheet.left in
    let row : kept (kept y +ℤ kept c.from-in-Some-Rule.result) ≡ y +ℤ pos sheet.top = ap₂ (λ (a b : ℤ). kept (a +ℤ b)) same_y second ∙ kept_sum y sheet.top near.top c.requires.sheet.top in
    let wide : kept w ≡ w = omega (arith, ints) in
    let high : kept h ≡ h = omega (arith, ints) in
    let bar = Bar (kept (kept x +ℤ kept c.from.result)) (kept (kept y +ℤ kept c.from-in-Some-Rule.result)) (kept w) (kept h) in
    let set : bar ∷ [] ≡ inks_of sheet c.args.mark glyph =
    ap₂ (λ (a b : ℤ). Bar a b (kept w) (kept h) ∷ []) column row
    ∙ ap₂ (λ (a b : ℤ). Bar (x +ℤ pos sheet.left) (y +ℤ pos sheet.top) a b ∷ []) wide high
    ∙ ap (λ (m : Option Mark). inks_of sheet m glyph) (sym is) in
    inked_by c.args.page.now c.rule.new.self sheet bar _ set c.rule.ensures.marks

pub returns-in-Some : goal.returns-in-Some
returns-in-Some c =
    let hh = c.in-Some-Char.hh in
    let vv = c.in-Some-Char.vv in
    let g = c.in-Some.glyph.now in
    let sheet = c.args.sheet.now in
    let is : c.args.mark ≡ Some (mark.Char hh vv) = first_of (cc, search rules) in
    let same_hh : kept hh ≡ hh = omega (arith, ints) in
    let same_vv : kept vv ≡ vv = omega (arith, ints) in
    let same_hoff : to_z w32 (of_z w32 g.hoff) ≡ g.hoff = omega (arith, ints) in
    let same_voff : to_z w32 (of_z w32 g.voff) ≡ g.voff = omega (arith, ints) in
    let kept_column : kept c.top_left-column.result ≡ c.top_left-column.result = omega (arith, ints) in
    let kept_row : kept c.top_left-row.result ≡ c.top_left-row.result = omega (arith, ints) in
    let column : kept c.top_left-column.result ≡ hh -ℤ g.hoff +ℤ pos sheet.left =
    kept_column ∙ c.top_left-column.ensures.value ∙ ap₂ (λ (a b : ℤ). a -ℤ b +ℤ pos sheet.left) same_hh same_hoff in
    let row : kept c.top_left-row.result ≡ vv -ℤ g.voff +ℤ pos sheet.top =
    kept_row ∙ c.top_left-row.ensures.value ∙ ap₂ (λ (a b : ℤ). a -ℤ b +ℤ pos sheet.top) same_vv same_voff in
    let dots = Dots g.raster (kept c.top_left-column.result) (kept c.top_left-row.result) in
    let set : dots ∷ [] ≡ inks_of sheet c.args.mark (option_map (λ g. g.now) c.args.glyph) =
    ap₂ (λ (a b : ℤ). Dots g.raster a b ∷ []) column row
    ∙ ap (λ (o : Option Glyph). dots_of sheet o hh vv) (sym (ap (option_map (λ g. g.now)) c.in-Some.is))
    ∙ ap (λ (m : Option Mark). inks_of sheet m (option_map (λ g. g.now) c.args.glyph)) (sym is) in
    inked_by c.args.page.now c.paint.new.page sheet dots _ set c.paint.ensures.marks
