use Rattle.std.proofs.Common.{◌∙◌, sym}
use Rattle.pk_runs.proofs.RowWords.{all_pixels}
use Rattle.pk_runs.proofs.row_words.word_of.Goals as goal

pub returns-then-black : goal.returns-then-black
returns-then-black c = λ i h. all_pixels i h ∙ sym c.if-black.true
