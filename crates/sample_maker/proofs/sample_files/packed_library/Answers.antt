use Rattle.sample_maker.specs.Sample.{packed_bar_pk, packed_dot_pk, packed_files}
use Rattle.sample_maker.proofs.SampleParts.{one_file}
use Rattle.sample_maker.proofs.sample_files.packed_library.Goals as goal

pub returns : goal.returns
unfolding packed_files
returns c =
    let one = one_file _ _ _ _ _ packed_bar_pk c.in_ok-add.ensures c.in_ok-files.ensures c.in_ok-bar_pk.ensures in
    one_file _ _ _ _ _ packed_dot_pk c.in_ok-add-2.ensures one c.in_ok-dot_pk.ensures
