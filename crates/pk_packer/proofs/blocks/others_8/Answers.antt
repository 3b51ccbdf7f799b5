use Rattle.std.proofs.Common.{◌∙◌, ◌-◌, ◌*◌, true, false, arith}
use Rattle.pk_packer.proofs.FirstOther.{none_other, others_are, seen_in_word}
use Rattle.pk_packer.proofs.blocks.others_8.Goals as goal

pub returns-then-black : goal.returns-then-black
returns-then-black c = λ none x low high.
    seen_in_word c.args.row.now c.args.at c.word_at-word.result x c.args.black c.word_at-word.ensures low high
    (none_other c.args.black c.word_at-word.result (x - 8 * c.args.at) (omega arith) (omega (arith, low, high)) (others_are c.args.black c.word_at-word.result true c.if-black.true ∙ none))

pub returns : goal.returns
returns c = λ none x low high.
    seen_in_word c.args.row.now c.args.at c.word_at-word.result x c.args.black c.word_at-word.ensures low high
    (none_other c.args.black c.word_at-word.result (x - 8 * c.args.at) (omega arith) (omega (arith, low, high)) (others_are c.args.black c.word_at-word.result false c.if-black.false ∙ none))
