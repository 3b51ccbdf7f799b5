use Rattle.font_decode.proofs.FewNames.{few_are_looked_for}
use Rattle.font_decode.proofs.laws.answers.Goals as goal

pub returns-clause-few : goal.returns-clause-few
returns-clause-few c = few_are_looked_for
