use Rattle.std.proofs.Common.{◌≡◌, ◌∙◌, ℕ, ◌<◌, ℤ, true, Some, sym, ap, subst, to_z, of_z, w32, w64, arith}
use Rattle.std.specs.Prelude.{unsigned_abs}
use Rattle.std.proofs.lemmas.Int.{ints}
use Rattle.std.specs.Arc.{arc_value}
use Rattle.font_decode.specs.Fonts.{IsProgram, is_virtual_of, packet_of, scaled_width_of}
use Rattle.font_decode.specs.declared.font_or_fault.Decoded.TheVariants as decoded
use Rattle.vf_expand.specs.Course as course
use Rattle.vf_expand.specs.Effects.{value_of_current}
use Rattle.vf_expand.proofs.Entries.{enters}
use Rattle.vf_expand.proofs.Virtual.{at_some}
use Rattle.vf_expand.proofs.character.entry.Goals as goal

pub returns-clause-enters : goal.returns-clause-enters
returns-clause-enters c =
    let current = value_of_current c.args.current.now in
    let key = arc_value c.in-Known.field-0 in
    let font = c.in-Font.font in
    let level = c.in_ok-first_level.field-0 in
    let same_width : to_z w64 (of_z w64 c.in-Some.width) ≡ c.in-Some.width = omega (arith, ints) in
    let made = c.in_ok-first_level.ensures.level in
    let known : current ≡ course.Known key (decoded.Font font) = ap value_of_current c.in-Known.is ∙ ap (course.Known key) (sym c.deref-decoded.ensures ∙ c.in-Font.is) in
    let code = unsigned_abs (to_z w32 (of_z w32 c.args.code)) in
    let byte = c.in-Some.ensures.byte in
    let number : code ≡ byte.0 = omega (arith, ints, byte.1) in
    let same : c.args.code ≡ to_z w32 (of_z w32 c.args.code) = omega (arith, ints) in
    let width = subst (λ (z : ℤ). scaled_width_of font z ≡ Some c.in-Some.width) (sym same) (sym c.in-Some.ensures.width) in
    let there = at_some (λ x. x.now) c.packet.result (packet_of font code) (IsProgram code) c.if-is_none.ensures c.packet.ensures.packet c.packet.ensures.commands in
    let some : 0 < c.args.room = omega (arith, c.if-room-eq0.false) in
    let virtual : is_virtual_of font ≡ true = sym c.if-not-is_virtual.ensures in
    let own = subst (λ (n : ℕ). packet_of font n ≡ Some there.0) (number ∙ sym (ap course.number_of (same ∙ byte.1))) there.1 in
    let packet = subst (λ (n : ℕ). packet_of font n ≡ Some there.0) (sym made.0) there.1 in
    let program = subst (λ (n : ℕ). IsProgram n there.0) (sym made.0) there.2 in
    enters current key font c.args.room c.args.code c.in-Some.width c.args.put there.0 level known width virtual some own packet program made.1
    c.in_ok-first_level.ensures.first (made.2 ∙ c.advance_of.ensures.advance ∙ ap (λ (w : ℤ). course.advance_of w c.args.put) same_width)
