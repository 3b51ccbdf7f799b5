use Rattle.std.proofs.Common.{◌≡◌, ◌∙◌, ◌++◌, ap₂, arith, refl, subst, sym, ℤ, Option, Ok, Err}
use Rattle.drift_rules.specs.Position.{Char, state_after}
use Rattle.drift_rules.specs.declared.flat.Mark.{Mark}
use Rattle.drift_rules.proofs.Held.{kept}
use Rattle.pk_runs.specs.declared.glyph.Glyph.{Glyph}
use Rattle.raster_page.specs.Ink.{page_of}
use Rattle.page_draw.specs.Sheets.{inks_of}
use Rattle.page_draw.proofs.flats.draw_packed_char.Goals as goal

pub returns-in-Ok-clause-moved : goal.returns-in-Ok-clause-moved
returns-in-Ok-clause-moved c = λ key.
    let same = kept c.args.packed.width (omega (arith, c.requires.reach)) in
    let moved = c.in-Ok.ensures.moved key c.args.packed.code in
    subst (λ (x : ℤ). state_after c.args.pen.now.conv c.args.pen.now.state (Char key c.args.packed.code x c.args.packed.put) ≡ Ok c.character.new.self.state) same moved

pub returns-in-Ok-clause-inked : goal.returns-in-Ok-clause-inked
returns-in-Ok-clause-inked c = λ key done has.
    c.ink.ensures done has
    ∙ ap₂ (λ (m : Option Mark) (g : Option Glyph). page_of c.args.sheet.now.width c.args.sheet.now.height (done ++ inks_of c.args.sheet.now m g))
    (sym (c.in-Ok.ensures.marked key c.args.packed.code)) refl

pub returns-in-Err-clause-stop : goal.returns-in-Err-clause-stop
returns-in-Err-clause-stop c = λ key.
    let same = kept c.args.packed.width (omega (arith, c.requires.reach)) in
    let fault = c.in-Err.ensures.fault key c.args.packed.code in
    let found = subst (λ (x : ℤ). state_after c.args.pen.now.conv c.args.pen.now.state (Char key c.args.packed.code x c.args.packed.put) ≡ Err c.in-Err.fault) same fault in
    (c.in-Err.fault, found, refl, refl)
