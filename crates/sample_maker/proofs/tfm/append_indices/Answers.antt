use Rattle.std.proofs.Common.{◌≡◌, arith, append_assoc}
use Rattle.sample_maker.specs.TfmFile.{first_code, index_word}
use Rattle.sample_maker.proofs.Blocks.{range_step}
use Rattle.sample_maker.proofs.Pairs.{last_greatest}
use Rattle.sample_maker.proofs.tfm.append_indices.Goals as goal

pub overflow_sub-i-end : goal.overflow_sub-i-end
overflow_sub-i-end c = omega (arith, last_greatest c.args.widths.now 0 c.requires.rising c.requires.some)

pub loop-i-preserved : goal.loop-i-preserved
loop-i-preserved c =
    let pairs = c.args.widths.now in
    let first : c.from-first.result ≡ first_code pairs = cc in
    let more = range_step (index_word pairs) (first_code pairs) c.loop-i.i in
    grind (arith, more, append_assoc)
