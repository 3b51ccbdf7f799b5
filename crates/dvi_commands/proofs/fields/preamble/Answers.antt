use Rattle.std.proofs.Common.{refl, arith}
use Rattle.dvi_commands.proofs.Motions.{pre_stored}
use Rattle.dvi_commands.proofs.fields.preamble.Goals as goal

pub returns : goal.returns
returns c =
    pre_stored _ c.signed_quad.result c.signed_quad-2.result c.signed_quad-3.result c.args.fields.now c.args.text.now c.requires.whole c.requires.text (omega (arith, c.type_inv.fields 13)) (omega (arith, c.type_inv.fields 0)) refl
    (c.signed_quad.ensures.fits, (c.signed_quad-2.ensures.fits, (c.signed_quad-3.ensures.fits, tt)))
    (c.signed_quad.ensures.written, (c.signed_quad-2.ensures.written, (c.signed_quad-3.ensures.written, tt)))
