use Rattle.std.proofs.Common.{◌≡◌, ◌∙◌, ◌+◌, ◌*◌, ◌/◌, drop, ap, refl, arith, to_z-of_z, w32, rules}
use Rattle.std.proofs.lemmas.List.{take_rest}
use Rattle.std.proofs.lemmas.Nat.{and_mask}
use Rattle.pk_packets.specs.Items.{head_size, opcode}
use Rattle.pk_packets.specs.Packets.{fixed_size}
use Rattle.std.specs.Prelude.{◌==◌}
use Rattle.pk_packets.proofs.packet.Packet.of.Goals as goal

pub returns-clause-fields : goal.returns-clause-fields
returns-clause-fields c =
    let bytes = c.args.bytes.now in
    let form = c.of-form in
    let place : 1 + form.result.count + form.result.code + form.result.escapements + 4 * form.result.side ≡ head_size (opcode bytes) + fixed_size (opcode bytes) =
    omega (arith, form.ensures.count, form.ensures.code, form.ensures.escapements, form.ensures.side) in
    record {
      code = cc;
      dyn_f = refl;
      black = ap (λ n. n == 1) (and_mask (opcode bytes / 8) 1);
      width = cc;
      height = cc;
      hoff = to_z-of_z {w = w32} {z = c.signed_at.result} (let known = c.signed_at.type_inv in search rules) ∙ (cc);
      voff = to_z-of_z {w = w32} {z = c.signed_at-2.result} (let known = c.signed_at-2.type_inv in search rules) ∙ (cc);
      raster = take_rest bytes _ ∙ ap (λ n. drop n bytes) place;
    }
