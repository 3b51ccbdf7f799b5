use Rattle.std.proofs.Common.{◌≡◌, ◌∙◌, ℕ, ℤ, pos, false, Some, sym, ap, subst, to_z, of_z, w32, w64, arith}
use Rattle.std.specs.Prelude.{unsigned_abs}
use Rattle.std.proofs.lemmas.Int.{ints}
use Rattle.std.specs.Arc.{arc_value}
use Rattle.font_decode.specs.Fonts.{glyph_at, is_virtual_of}
use Rattle.font_decode.specs.declared.font_or_fault.Decoded.TheVariants as decoded
use Rattle.vf_expand.specs.Course as course
use Rattle.vf_expand.specs.Effects.{SetsPackedChar, value_of_current}
use Rattle.vf_expand.proofs.PackedChars.{sets_packed_char}
use Rattle.vf_expand.proofs.character.packed_char.Goals as goal

pub returns-clause-sets : goal.returns-clause-sets
returns-clause-sets c =
    let current = value_of_current c.args.current.now in
    let key = arc_value c.in-Known.key in
    let font = c.in-Font.font in
    let code = to_z w32 (of_z w32 c.args.code) in
    let width = c.in_ok-width.width in
    let known : current ≡ course.Known key (decoded.Font font) = ap value_of_current c.in-Known.is ∙ ap (course.Known key) (sym c.deref-decoded.ensures ∙ c.in-Font.is) in
    let byte = c.in_ok-width.ensures.byte in
    let number : unsigned_abs code ≡ byte.0 = omega (arith, ints, byte.1) in
    let glyph = subst (λ (n : ℕ). glyph_at font n ≡ Some c.in_ok-glyph.glyph.now) number c.in_ok-glyph.ensures in
    let packed : is_virtual_of font ≡ false = sym c.is_virtual.ensures ∙ c.if-is_virtual.false in
    let same : c.args.code ≡ code = omega (arith, ints) in
    let same_width : width ≡ to_z w64 (of_z w64 width) = omega (arith, ints) in
    let sets = sets_packed_char current key font byte.0 code width c.in_ok-glyph.glyph.now known byte.1 (sym c.in_ok-width.ensures.width) packed glyph in
    subst (λ (z : ℤ). SetsPackedChar current z key (to_z w64 (of_z w64 width))) (sym (same ∙ byte.1)) (subst (λ (z : ℤ). SetsPackedChar current (pos byte.0) key z) same_width sets)
