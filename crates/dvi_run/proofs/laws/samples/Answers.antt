use Rattle.std.proofs.Common.{arith}
use Rattle.std.proofs.lemmas.List.{take_all}
use Rattle.sample_maker.specs.Sample.{sample_document}
use Rattle.dvi_run.proofs.laws.samples.Goals as goal

pub returns : goal.returns
returns c = λ pages few. let fits = c.samples.ensures.fit pages few in take_all 67108865 (sample_document pages) (omega (arith, fits))
