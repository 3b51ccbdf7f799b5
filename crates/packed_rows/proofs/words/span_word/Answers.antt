use Rattle.packed_rows.proofs.Bits.{word_span}
use Rattle.packed_rows.proofs.words.span_word.Goals as goal

pub returns : goal.returns
returns c = λ i h. word_span c.args.from c.args.until i c.requires.from c.requires.some c.requires.until h
