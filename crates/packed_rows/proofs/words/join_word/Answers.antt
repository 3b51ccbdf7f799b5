use Rattle.std.proofs.Common.{refl}
use Rattle.packed_rows.proofs.EightBytes.{word_joined}
use Rattle.packed_rows.proofs.words.join_word.Goals as goal

pub returns-clause-pixels : goal.returns-clause-pixels
returns-clause-pixels c = λ x inside.
    word_joined c.args.row.now c.to_be_bytes-joined.result _ c.args.at c.word_at.result c.args.word x c.requires c.word_at.ensures c.to_be_bytes-joined.ensures refl
