use Rattle.pk_runs.proofs.RowWords.{masked_pixel}
use Rattle.pk_runs.proofs.row_words.prefix.Goals as goal

pub returns : goal.returns
returns c = λ i h. masked_pixel c.args.word c.args.column i c.requires h
