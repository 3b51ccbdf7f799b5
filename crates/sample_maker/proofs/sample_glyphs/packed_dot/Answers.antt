use Rattle.std.proofs.Common.{◌≡◌, ◌∙◌, [], ◌∷◌, ap}
use Rattle.std.proofs.lemmas.Result.{IfOk-weaker}
use Rattle.pk_runs.specs.declared.glyph.Glyph.{Glyph}
use Rattle.sample_maker.specs.PkFile.{packed_file}
use Rattle.sample_maker.specs.Sample.{packed_dot_pk}
use Rattle.sample_maker.proofs.sample_glyphs.packed_dot.Goals as goal

pub returns : goal.returns
unfolding packed_dot_pk
returns c =
    IfOk-weaker c.pk_packed.result _ _
    (λ bytes e. e ∙ ap (λ (g : Glyph). packed_file ((65, g) ∷ [])) c.in_ok-dot.ensures) c.pk_packed.ensures.bytes
