use Rattle.std.proofs.Common.{◌≡◌, arith, refl}
use Rattle.std.proofs.lemmas.Int.{ints}
use Rattle.std.proofs.lemmas.Bool.Decides.{nat_tests}
use Rattle.dvi_commands.proofs.Motions.{motion, rule, post_post_stored, stored}
use Rattle.dvi_commands.proofs.Numbered.{font, opcode_font, opcode_set, put, set}
use Rattle.dvi_commands.proofs.Texts.{are_bytes, special}
use Rattle.dvi_commands.proofs.fields.command_with.Goals as goal

pub returns-in-0-to-127 : goal.returns-in-0-to-127
returns-in-0-to-127 c = opcode_set c.args.opcode c.args.fields.now c.args.text.now _ (omega arith) (omega (arith, ints, c.from.ensures)) c.requires.whole c.requires.text

pub returns-in-128-to-131 : goal.returns-in-128-to-131
returns-in-128-to-131 c =
    let same : stored c.code.result ≡ c.code.result = omega (arith, ints) in
    set c.args.opcode c.args.fields.now c.args.text.now c.code.result _ (omega arith) (omega arith) c.requires.whole c.requires.text same c.code.ensures.fits c.code.ensures.written

pub returns-in-133-to-136 : goal.returns-in-133-to-136
returns-in-133-to-136 c =
    let same : stored c.code-in-133-to-136.result ≡ c.code-in-133-to-136.result = omega (arith, ints) in
    put c.args.opcode c.args.fields.now c.args.text.now c.code-in-133-to-136.result _ (omega arith) (omega arith) c.requires.whole c.requires.text same c.code-in-133-to-136.ensures.fits c.code-in-133-to-136.ensures.written

pub returns-in-171-to-234 : goal.returns-in-171-to-234
returns-in-171-to-234 c = opcode_font c.args.opcode c.args.fields.now c.args.text.now _ (omega arith) (omega arith) (omega (arith, ints, c.from-in-171-to-234.ensures)) c.requires.whole c.requires.text

pub returns-in-235-to-238 : goal.returns-in-235-to-238
returns-in-235-to-238 c =
    let same : stored c.code-in-235-to-238.result ≡ c.code-in-235-to-238.result = omega (arith, ints) in
    font c.args.opcode c.args.fields.now c.args.text.now c.code-in-235-to-238.result _ (omega arith) (omega arith) c.requires.whole c.requires.text same c.code-in-235-to-238.ensures.fits c.code-in-235-to-238.ensures.written

pub returns-in-239-to-242 : goal.returns-in-239-to-242
returns-in-239-to-242 c = special c.args.opcode c.args.fields.now c.args.text.now (omega arith) (omega arith) c.requires.whole c.requires.text c.requires.not_negative (are_bytes c.args.fields.now (λ k. omega (arith, c.type_inv.fields k)))

pub returns-in-143-to-146 : goal.returns-in-143-to-146
returns-in-143-to-146 c =
    let same : stored c.signed.result ≡ c.signed.result = omega (arith, ints) in
    motion 142 c.args.opcode c.args.fields.now c.args.text.now c.signed.result _ refl (omega arith) (omega arith) (omega arith) c.requires.whole c.requires.text same c.signed.ensures.fits c.signed.ensures.written

pub returns-in-148-to-151 : goal.returns-in-148-to-151
returns-in-148-to-151 c =
    let same : stored c.signed-in-148-to-151.result ≡ c.signed-in-148-to-151.result = omega (arith, ints) in
    motion 147 c.args.opcode c.args.fields.now c.args.text.now c.signed-in-148-to-151.result _ refl (omega arith) (omega arith) (omega arith) c.requires.whole c.requires.text same c.signed-in-148-to-151.ensures.fits c.signed-in-148-to-151.ensures.written

pub returns-in-153-to-156 : goal.returns-in-153-to-156
returns-in-153-to-156 c =
    let same : stored c.signed-in-153-to-156.result ≡ c.signed-in-153-to-156.result = omega (arith, ints) in
    motion 152 c.args.opcode c.args.fields.now c.args.text.now c.signed-in-153-to-156.result _ refl (omega arith) (omega arith) (omega arith) c.requires.whole c.requires.text same c.signed-in-153-to-156.ensures.fits c.signed-in-153-to-156.ensures.written

pub returns-in-157-to-160 : goal.returns-in-157-to-160
returns-in-157-to-160 c =
    let same : stored c.signed-in-157-to-160.result ≡ c.signed-in-157-to-160.result = omega (arith, ints) in
    motion 156 c.args.opcode c.args.fields.now c.args.text.now c.signed-in-157-to-160.result _ refl (omega arith) (omega arith) (omega arith) c.requires.whole c.requires.text same c.signed-in-157-to-160.ensures.fits c.signed-in-157-to-160.ensures.written

pub returns-in-162-to-165 : goal.returns-in-162-to-165
returns-in-162-to-165 c =
    let same : stored c.signed-in-162-to-165.result ≡ c.signed-in-162-to-165.result = omega (arith, ints) in
    motion 161 c.args.opcode c.args.fields.now c.args.text.now c.signed-in-162-to-165.result _ refl (omega arith) (omega arith) (omega arith) c.requires.whole c.requires.text same c.signed-in-162-to-165.ensures.fits c.signed-in-162-to-165.ensures.written

pub returns-in-167-to-170 : goal.returns-in-167-to-170
returns-in-167-to-170 c =
    let same : stored c.signed-in-167-to-170.result ≡ c.signed-in-167-to-170.result = omega (arith, ints) in
    motion 166 c.args.opcode c.args.fields.now c.args.text.now c.signed-in-167-to-170.result _ refl (omega arith) (omega arith) (omega arith) c.requires.whole c.requires.text same c.signed-in-167-to-170.ensures.fits c.signed-in-167-to-170.ensures.written

pub returns-in-132 : goal.returns-in-132
returns-in-132 c =
    rule 132 c.args.opcode c.args.fields.now c.args.text.now c.signed_quad.result c.signed_quad-in-132.result (omega arith) refl (omega arith) c.requires.whole c.requires.text (c.signed_quad.ensures.fits, (c.signed_quad-in-132.ensures.fits, tt)) (c.signed_quad.ensures.written, (c.signed_quad-in-132.ensures.written, tt))

pub returns-in-137 : goal.returns-in-137
returns-in-137 c =
    rule 137 c.args.opcode c.args.fields.now c.args.text.now c.signed_quad-in-137.result c.signed_quad-in-137-2.result (omega arith) refl (omega arith) c.requires.whole c.requires.text (c.signed_quad-in-137.ensures.fits, (c.signed_quad-in-137-2.ensures.fits, tt)) (c.signed_quad-in-137.ensures.written, (c.signed_quad-in-137-2.ensures.written, tt))

pub returns-in_default : goal.returns-in_default
returns-in_default c =
    let opcode : c.args.opcode ≡ 249 = grind (arith, nat_tests) in
    let q = c.signed_quad-in_default in
    post_post_stored q.result c.args.opcode _ c.args.fields.now c.args.text.now opcode c.requires.whole c.requires.text (omega (arith, c.type_inv.fields 4)) refl (q.ensures.fits, tt) (q.ensures.written, tt)
