use Rattle.std.proofs.Common.{◌≡◌, ◌∙◌, ◌+◌, ◌≤◌, None, [], ◌∷◌, pos, length-append, ap, arith, subst}
use Rattle.std.specs.Prelude.{IfSome}
use Rattle.fix_word.specs.FixWords.{IsFixWord}
use Rattle.tfm_reader.specs.Tfm.{bc, codes_of, tfm_width}
use Rattle.tfm_reader.proofs.Table.{pushed, pushed_all, whole_table}
use Rattle.tfm_reader.proofs.tfm.table.Goals as goal

pub loop-code-preserved : goal.loop-code-preserved
loop-code-preserved c =
    let before = c.loop-code.invariant in
    let xs = c.loop-code.widths.items in
    rw c.in_ok-push.ensures.items (record {
      count = length-append xs (c.width.result ∷ []) ∙ ap (λ n. n + 1) before.count;
      fit = pushed_all (λ w. IfSome w IsFixWord) xs c.width.result before.fit c.width.ensures.fits;
      right = pushed xs c.width.result None (λ k. tfm_width c.args.bytes.now (pos k)) c.loop-code.code before.count before.right c.width.ensures.width;
    })

pub returns-clause-widths : goal.returns-clause-widths
returns-clause-widths c =
    let places = c.requires.places in
    let end : c.loop-code.code ≡ 256 = omega arith in
    let last : bc c.args.bytes.now + codes_of c.args.bytes.now ≤ 256 = subst (λ n. bc c.args.bytes.now + n ≤ 256) places.codes (subst (λ n. n + c.args.layout.now.codes ≤ 256) places.first places.last) in
    whole_table c.args.bytes.now c.loop-code.widths.items (c.loop-code.invariant.count ∙ end) last
    (λ k lt. c.loop-code.invariant.right k (omega arith))
