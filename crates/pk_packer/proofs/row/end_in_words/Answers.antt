use Rattle.std.proofs.Common.{inl, inr, ◌-◌, ◌*◌, arith}
use Rattle.std.proofs.lemmas.Bool.{cases_lt}
use Rattle.pk_packer.proofs.FirstOther.{seen_in_word}
use Rattle.pk_packer.proofs.row.end_in_words.Goals as goal

pub returns-then-end-start-clause-same : goal.returns-then-end-start-clause-same
returns-then-end-start-clause-same c = λ k low high. elim (cases_lt k (8 * c.loop-at.at)) [
  | inl before ↦ c.loop-at.invariant.same k low before
  | inr here ↦
      seen_in_word c.args.row.now c.min-start.result c.word_at.result k c.args.black c.word_at.ensures (omega (arith, here, c.min-start.ensures)) (omega (arith, high, c.if-end-start.true))
      (c.first_other.ensures.same (k - 8 * c.min-start.result) (omega (arith, here)) (omega (arith, here, high, c.min-start.ensures)))
]

pub loop-at-preserved : goal.loop-at-preserved
loop-at-preserved c = record {
  least = omega (arith, c.loop-at.invariant.least, c.loop-at-test.true, c.min-start.ensures, c.requires.word);
  most = omega (arith, c.requires.word, c.min-start.ensures);
  same = λ k low high. elim (cases_lt k (8 * c.loop-at.at)) [
    | inl before ↦ c.loop-at.invariant.same k low before
    | inr here ↦
        seen_in_word c.args.row.now c.min-start.result c.word_at.result k c.args.black c.word_at.ensures (omega (arith, here, c.min-start.ensures)) (omega (arith, high))
        (c.first_other.ensures.same (k - 8 * c.min-start.result) (omega (arith, here)) (omega (arith, here, high, c.min-start.ensures, c.if-end-start.false)))
  ];
}
