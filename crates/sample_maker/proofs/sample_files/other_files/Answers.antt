use Rattle.sample_maker.specs.Sample.{bar_tfm, dot_tfm, duo_tfm, duo_vf}
use Rattle.sample_maker.proofs.SampleParts.{one_file}
use Rattle.sample_maker.proofs.sample_files.other_files.Goals as goal

pub returns : goal.returns
unfolding duo_tfm dot_tfm bar_tfm
returns c =
    let three = one_file _ _ _ _ _ duo_vf c.in_ok-add.ensures c.new-files.ensures c.in_ok-duo_vf.ensures in
    let four = one_file _ _ _ _ _ bar_tfm c.in_ok-add-2.ensures three c.in_ok-bar_tfm.ensures.bytes in
    let five = one_file _ _ _ _ _ dot_tfm c.in_ok-add-3.ensures four c.in_ok-dot_tfm.ensures.bytes in
    one_file _ _ _ _ _ duo_tfm c.in_ok-add-4.ensures five c.in_ok-duo_tfm.ensures.bytes
