use Rattle.std.proofs.Common.{eqb, ap}
use Rattle.pk_runs.proofs.RowWords.{last_bit}
use Rattle.pk_runs.proofs.row_words.last.Goals as goal

pub returns : goal.returns
returns c = ap (λ n. eqb n 1) (last_bit c.args.word)
