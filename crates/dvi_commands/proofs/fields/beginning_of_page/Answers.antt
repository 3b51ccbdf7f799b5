use Rattle.std.proofs.Common.{[], ◌∷◌, refl}
use Rattle.dvi_commands.proofs.Motions.{bop_stored}
use Rattle.dvi_commands.proofs.fields.beginning_of_page.Goals as goal

pub returns : goal.returns
returns c =
    bop_stored (c.signed_quad.result ∷ c.signed_quad-2.result ∷ c.signed_quad-3.result ∷ c.signed_quad-4.result ∷ c.signed_quad-5.result ∷ c.signed_quad-6.result ∷ c.signed_quad-7.result ∷ c.signed_quad-8.result ∷ c.signed_quad-9.result ∷ c.signed_quad-10.result ∷ []) c.signed_quad-11.result c.args.fields.now c.requires refl
    (c.signed_quad.ensures.fits, (c.signed_quad-2.ensures.fits, (c.signed_quad-3.ensures.fits, (c.signed_quad-4.ensures.fits, (c.signed_quad-5.ensures.fits, (c.signed_quad-6.ensures.fits, (c.signed_quad-7.ensures.fits, (c.signed_quad-8.ensures.fits, (c.signed_quad-9.ensures.fits, (c.signed_quad-10.ensures.fits, tt))))))))))
    c.signed_quad-11.ensures.fits
    (c.signed_quad.ensures.written, (c.signed_quad-2.ensures.written, (c.signed_quad-3.ensures.written, (c.signed_quad-4.ensures.written, (c.signed_quad-5.ensures.written, (c.signed_quad-6.ensures.written, (c.signed_quad-7.ensures.written, (c.signed_quad-8.ensures.written, (c.signed_quad-9.ensures.written, (c.signed_quad-10.ensures.written, tt))))))))))
    c.signed_quad-11.ensures.written
