use Rattle.std.proofs.Common.{◌∙◌, sym, arith}
use Rattle.pk_packer.proofs.FirstOther.{is_behind, other_there, others_are, same_before}
use Rattle.pk_packer.proofs.row.first_other.Goals as goal
use Rattle.pk_packer.proofs.row.first_other.Goals.{then-black, else-black}

pub returns-clause-least : goal.returns-clause-least
returns-clause-least c = elim c.if-black.branch [
  | then-black w ↦ is_behind c.args.black c.args.word c.args.from _ (omega (arith, c.ranges.word.fits)) c.requires (w.others-is ∙ sym (others_are c.args.black c.args.word _ w.if-black.true))
  | else-black w ↦ is_behind c.args.black c.args.word c.args.from _ (omega (arith, c.ranges.word.fits)) c.requires (w.others-is ∙ sym (others_are c.args.black c.args.word _ w.if-black.false))
]

pub returns-clause-same : goal.returns-clause-same
returns-clause-same c = λ i from before. elim c.if-black.branch [
  | then-black w ↦ same_before c.args.black c.args.word c.args.from _ i (omega (arith, c.ranges.word.fits)) c.requires (w.others-is ∙ sym (others_are c.args.black c.args.word _ w.if-black.true)) from before
  | else-black w ↦ same_before c.args.black c.args.word c.args.from _ i (omega (arith, c.ranges.word.fits)) c.requires (w.others-is ∙ sym (others_are c.args.black c.args.word _ w.if-black.false)) from before
]

pub returns-clause-other : goal.returns-clause-other
returns-clause-other c = λ within. elim c.if-black.branch [
  | then-black w ↦ other_there c.args.black c.args.word c.args.from _ (omega (arith, c.ranges.word.fits)) c.requires (w.others-is ∙ sym (others_are c.args.black c.args.word _ w.if-black.true)) within
  | else-black w ↦ other_there c.args.black c.args.word c.args.from _ (omega (arith, c.ranges.word.fits)) c.requires (w.others-is ∙ sym (others_are c.args.black c.args.word _ w.if-black.false)) within
]
