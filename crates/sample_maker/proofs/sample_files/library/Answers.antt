use Rattle.sample_maker.specs.Sample.{bar_pk, dot_pk, sample_files}
use Rattle.sample_maker.proofs.SampleParts.{one_file}
use Rattle.sample_maker.proofs.sample_files.library.Goals as goal

pub returns : goal.returns
unfolding sample_files dot_pk bar_pk
returns c =
    let one = one_file _ _ _ _ _ bar_pk c.in_ok-add.ensures c.in_ok-files.ensures c.in_ok-bar_pk.ensures.items in
    one_file _ _ _ _ _ dot_pk c.in_ok-add-2.ensures one c.in_ok-dot_pk.ensures.items
