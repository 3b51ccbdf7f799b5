use Rattle.dvi_commands.proofs.Motions.{post_stored}
use Rattle.dvi_commands.proofs.fields.postamble.Goals as goal

pub returns : goal.returns
returns c =
    post_stored c.signed_quad.result c.signed_quad-2.result c.signed_quad-3.result c.signed_quad-4.result c.signed_quad-5.result c.signed_quad-6.result c.unsigned.result c.unsigned-2.result c.args.fields.now c.requires
    (c.signed_quad.ensures.fits, (c.signed_quad-2.ensures.fits, (c.signed_quad-3.ensures.fits, (c.signed_quad-4.ensures.fits, (c.signed_quad-5.ensures.fits, (c.signed_quad-6.ensures.fits, tt))))))
    (c.signed_quad.ensures.written, (c.signed_quad-2.ensures.written, (c.signed_quad-3.ensures.written, (c.signed_quad-4.ensures.written, (c.signed_quad-5.ensures.written, (c.signed_quad-6.ensures.written, tt))))))
    c.unsigned.ensures.fits c.unsigned-2.ensures.fits c.unsigned.ensures.written c.unsigned-2.ensures.written
