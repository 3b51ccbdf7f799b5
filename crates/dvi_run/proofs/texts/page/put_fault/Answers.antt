use Rattle.std.proofs.Common.{◌≡◌, ◌++◌, ℤ, arith, ap, ap₂, codes, w32, to_z, of_z}
use Rattle.std.specs.Fmt.{signed_decimal}
use Rattle.std.proofs.lemmas.Int.{ints}
use Rattle.outside.specs.declared.keys.FontKey.{FontKey}
use Rattle.vf_expand.specs.Faults.{NoLocalFont}
use Rattle.run_report.specs.Keys.{key_text}
use Rattle.dvi_run.specs.FontTexts.{font_text}
use Rattle.dvi_run.specs.PageTexts.{fault_text}
use Rattle.dvi_run.proofs.Puts.{puts_as}
use Rattle.dvi_run.proofs.texts.page.put_fault.Goals as goal

pub returns-in-NoFont : goal.returns-in-NoFont
returns-in-NoFont g c =
    let kept : to_z w32 (of_z w32 c.in-NoFont.number) ≡ c.in-NoFont.number = omega (arith, ints) in
    rw c.in-NoFont.is (puts_as (ap (λ (z : ℤ). codes "no font " ++ signed_decimal z) kept) c.put_undefined.ensures)

pub returns-in-NoCurrentFont : goal.returns-in-NoCurrentFont
returns-in-NoCurrentFont g c = rw c.in-NoCurrentFont.is c.put.ensures

pub returns-in-NoCharacter : goal.returns-in-NoCharacter
returns-in-NoCharacter g c =
    let kept : to_z w32 (of_z w32 c.in-NoCharacter.code) ≡ c.in-NoCharacter.code = omega (arith, ints) in
    rw c.in-NoCharacter.is
    (puts_as (ap₂ (λ (z : ℤ) (k : FontKey). codes "no character " ++ signed_decimal z ++ codes " in " ++ key_text k) kept c.deref.ensures) c.put_character.ensures)

pub returns-in-NoGlyph : goal.returns-in-NoGlyph
returns-in-NoGlyph g c =
    let kept : to_z w32 (of_z w32 c.in-NoGlyph.code) ≡ c.in-NoGlyph.code = omega (arith, ints) in
    rw c.in-NoGlyph.is
    (puts_as (ap₂ (λ (z : ℤ) (k : FontKey). codes "no glyph " ++ signed_decimal z ++ codes " in " ++ key_text k) kept c.deref-in-NoGlyph.ensures) c.put_character-in-NoGlyph.ensures)

pub returns-in-NoPacket : goal.returns-in-NoPacket
returns-in-NoPacket g c =
    let kept : to_z w32 (of_z w32 c.in-NoPacket.code) ≡ c.in-NoPacket.code = omega (arith, ints) in
    rw c.in-NoPacket.is
    (puts_as (ap₂ (λ (z : ℤ) (k : FontKey). codes "no packet " ++ signed_decimal z ++ codes " in " ++ key_text k) kept c.deref-in-NoPacket.ensures) c.put_character-in-NoPacket.ensures)

pub returns-in-NoLocalFont : goal.returns-in-NoLocalFont
returns-in-NoLocalFont g c = rw c.in-NoLocalFont.is (puts_as (ap (λ (k : FontKey). fault_text (NoLocalFont k c.in-NoLocalFont.number)) c.deref-in-NoLocalFont.ensures) c.put_local.ensures)

pub returns-in-Depth : goal.returns-in-Depth
returns-in-Depth g c =
    let kept : to_z w32 (of_z w32 c.in-Depth.code) ≡ c.in-Depth.code = omega (arith, ints) in
    rw c.in-Depth.is
    (puts_as (ap₂ (λ (z : ℤ) (k : FontKey). codes "depth at " ++ signed_decimal z ++ codes " in " ++ key_text k) kept c.deref-in-Depth.ensures) c.put_character-in-Depth.ensures)

pub returns-in-TooLong : goal.returns-in-TooLong
returns-in-TooLong g c = rw c.in-TooLong.is c.put-in-TooLong.ensures

pub returns-in-Font : goal.returns-in-Font
returns-in-Font g c =
    rw c.in-Font.is (puts_as (ap (λ (k : FontKey). codes "font " ++ key_text k ++ codes ": " ++ font_text c.in-Font.fault) c.deref-in-Font.ensures) c.put_font.ensures)

pub returns-in-Pen : goal.returns-in-Pen
returns-in-Pen g c = rw c.in-Pen.is (puts_as c.pen_name.ensures c.put-in-Pen.ensures)
