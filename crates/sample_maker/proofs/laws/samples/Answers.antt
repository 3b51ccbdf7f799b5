use Rattle.sample_maker.proofs.SampleMade.{is_sample, sample_fits, sample_gives}
use Rattle.sample_maker.proofs.laws.samples.Goals as goal

pub returns : goal.returns
returns c = record { documents = is_sample; give_back = sample_gives; fit = sample_fits }
