use Rattle.std.proofs.Common.{◌≡◌, ◌∙◌, ℕ, ◌<◌, ℤ, Option, Some, None, refl, sym, ap, subst, to_z, of_z, w32, arith}
use Rattle.std.specs.Prelude.{unsigned_abs}
use Rattle.std.proofs.lemmas.Int.{ints}
use Rattle.std.specs.Arc.{arc_value}
use Rattle.outside.specs.declared.keys.FontKey.{FontKey}
use Rattle.vf_expand.specs.Faults.{Depth, NoPacket}
use Rattle.font_decode.specs.Fonts.{packet_of, IsProgram}
use Rattle.font_decode.specs.declared.font_or_fault.Decoded.TheVariants as decoded
use Rattle.vf_expand.specs.Course.{Course, Current, Known, Stops, lacking, number_of}
use Rattle.vf_expand.proofs.Virtual.{at_none, at_some, entered, has_packet, no_packet, too_deep}
use Rattle.vf_expand.proofs.character.virtual_character.Goals as goal

pub returns-then-room-eq0-clause-has_effect : goal.returns-then-room-eq0-clause-has_effect
returns-then-room-eq0-clause-has_effect c = λ at others.
    let same : c.args.code ≡ to_z w32 (of_z w32 c.args.code) = omega (arith, ints) in
    too_deep at _ _ _ _ _ c.args.room c.if-room-eq0.true
    ∙ ap (λ (k : FontKey). Stops (Depth k c.args.code) at) (sym c.in_ok-try_clone.ensures)
    ∙ ap (λ (z : ℤ). Stops (Depth (arc_value c.in_ok-try_clone.field-0) z) at) same

pub returns-then-is_none-clause-has_effect : goal.returns-then-is_none-clause-has_effect
returns-then-is_none-clause-has_effect c = λ at others.
    let same : c.args.code ≡ to_z w32 (of_z w32 c.args.code) = omega (arith, ints) in
    let number : unsigned_abs (to_z w32 (of_z w32 c.args.code)) ≡ c.requires.byte.0 = omega (arith, ints, c.requires.byte.1) in
    let none = at_none c.packet.result _ _ c.if-is_none.ensures c.packet.ensures.packet in
    no_packet at _ _ _ _ _ c.args.room (omega (arith, c.if-room-eq0.false))
    (subst (λ (n : ℕ). packet_of c.args.font.now n ≡ None) (number ∙ sym (ap number_of c.requires.byte.1)) none)
    ∙ ap (λ (k : FontKey). lacking at (NoPacket k c.args.code) c.args.advance (others (Known (arc_value c.args.key.now) (decoded.Font c.args.font.now)))) (sym c.in_ok-try_clone-2.ensures)
    ∙ ap (λ (z : ℤ). lacking at (NoPacket (arc_value c.in_ok-try_clone-2.field-0) z) c.args.advance (others (Known (arc_value c.args.key.now) (decoded.Font c.args.font.now)))) same

pub returns-clause-has_effect : goal.returns-clause-has_effect
returns-clause-has_effect c =
    let code = unsigned_abs (to_z w32 (of_z w32 c.args.code)) in
    let number : code ≡ c.requires.byte.0 = omega (arith, ints, c.requires.byte.1) in
    let there = at_some (λ x. x.now) c.packet.result (packet_of c.args.font.now code) (IsProgram code) c.if-is_none.ensures c.packet.ensures.packet c.packet.ensures.commands in
    let own = subst (λ (n : ℕ). packet_of c.args.font.now n ≡ Some there.0) (number ∙ sym (ap number_of c.requires.byte.1)) there.1 in
    let some : 0 < c.args.room = omega (arith, c.if-room-eq0.false) in
    let made = c.in_ok-first_level.ensures.level in
    let after : (Current → Course) → Course = λ others. others (Known (arc_value c.args.key.now) (decoded.Font c.args.font.now)) in
    record {
      key = arc_value c.args.key.now;
      font = c.args.font.now;
      text = there.0;
      known = refl;
      some = some;
      packet = subst (λ (n : ℕ). packet_of c.args.font.now n ≡ Some there.0) (sym made.0) there.1;
      program = subst (λ (n : ℕ). IsProgram n there.0) (sym made.0) there.2;
      prefix = made.1;
      first = c.in_ok-first_level.ensures.first;
      gives = λ at others. has_packet at (arc_value c.args.key.now) c.args.font.now c.args.code c.args.advance (after others) c.args.room there.0 some own
          ∙ ap (λ (by : Option ℤ). entered at (arc_value c.args.key.now) c.args.font.now by (after others) c.args.room there.0) (sym made.2);
    }
