use Rattle.std.proofs.Common.{inl, inr, ◌-◌, ◌*◌, arith}
use Rattle.std.proofs.lemmas.Bool.{cases_lt}
use Rattle.pk_packer.proofs.FirstOther.{seen_in_word}
use Rattle.pk_packer.proofs.row.long_end.Goals as goal

pub returns-then-more-lt64-clause-same : goal.returns-then-more-lt64-clause-same
returns-then-more-lt64-clause-same c = λ k low high. elim (cases_lt k (8 * c.pass_words-passed.result)) [
  | inl before ↦ elim (cases_lt k (8 * c.pass_blocks-at.result)) [
    | inl first ↦ c.pass_blocks-at.ensures.same k low first
    | inr then ↦ c.pass_words-passed.ensures.same k then before
  ]
  | inr here ↦
      seen_in_word c.args.row.now c.pass_words-passed.result c.word_at.result k c.args.black c.word_at.ensures here (omega (arith, high, c.if-more-lt64.true))
      (c.first_other-more.ensures.same (k - 8 * c.pass_words-passed.result) (omega (arith, here)) (omega (arith, here, high)))
]
