use Rattle.pk_runs.proofs.RowWords.{turned_pixel}
use Rattle.pk_runs.proofs.row_words.turned_from.Goals as goal

pub returns : goal.returns
returns c = λ i h. turned_pixel c.args.word c.args.column i c.requires h
