use Rattle.std.proofs.Common.{◌≡◌, ◌∙◌, ◌+◌, None, [], ◌∷◌, pos, length-append, ap, arith}
use Rattle.std.specs.Prelude.{IfSome}
use Rattle.std.specs.Option.{option_map}
use Rattle.fix_word.specs.Scale.{scale}
use Rattle.tfm_reader.specs.Tfm.{width_of}
use Rattle.tfm_reader.proofs.Table.{pushed, pushed_all}
use Rattle.font_decode.specs.Fonts.{IsWidth}
use Rattle.font_decode.proofs.Scaled.{scaled_table}
use Rattle.font_decode.proofs.widths.scaled_widths.Goals as goal

pub loop-code-preserved : goal.loop-code-preserved
loop-code-preserved c =
    let before = c.loop-code.invariant in
    let xs = c.loop-code.widths.items in
    rw c.in_ok-push.ensures.items (record {
      count = length-append xs (c.width_at.result ∷ []) ∙ ap (λ n. n + 1) before.count;
      fit = pushed_all (λ w. IfSome w IsWidth) xs c.width_at.result before.fit c.width_at.ensures.fits;
      right = pushed xs c.width_at.result None (λ k. option_map (λ w. scale w c.args.size) (width_of c.args.tfm.now (pos k))) c.loop-code.code before.count before.right c.width_at.ensures.width;
    })

pub returns-clause-widths : goal.returns-clause-widths
returns-clause-widths c = λ bytes tfm.
    let end : c.loop-code.code ≡ 256 = omega arith in
    scaled_table c.args.size bytes c.args.tfm.now c.loop-code.widths.items (c.loop-code.invariant.count ∙ end)
    (λ k lt. c.loop-code.invariant.right k (omega arith)) tfm
