use Rattle.std.proofs.Common.{◌≡◌, arith}
use Rattle.std.proofs.lemmas.Int.{ints}
use Rattle.dvi_commands.proofs.Motions.{stored}
use Rattle.dvi_commands.proofs.Texts.{definition}
use Rattle.dvi_commands.proofs.fields.definition.Goals as goal

pub returns : goal.returns
returns c =
    let same : stored c.code.result ≡ c.code.result = omega (arith, ints) in
    let same_size : stored c.signed_quad.result ≡ c.signed_quad.result = omega (arith, ints) in
    let same_design : stored c.signed_quad-2.result ≡ c.signed_quad-2.result = omega (arith, ints) in
    rw (same, same_size, same_design)
    (definition c.args.fields.now c.args.name.now c.split_at.result.0.now c.split_at.result.1.now c.code.result c.signed_quad.result c.signed_quad-2.result c.unsigned.result c.requires.some c.requires.text c.split_at.ensures.front c.split_at.ensures.back
    c.code.ensures.fits c.code.ensures.written c.unsigned.ensures.fits c.unsigned.ensures.written c.signed_quad.ensures.fits c.signed_quad-2.ensures.fits c.signed_quad.ensures.written c.signed_quad-2.ensures.written (λ k. omega (arith, c.type_inv.fields k)))
