use Rattle.std.proofs.Common.{◌+◌, ◌*◌, count_ones, ap, ◌∙◌, arith, rules}
use Rattle.std.specs.List.{sum_by}
use Rattle.std.proofs.lemmas.List.{take_all}
use Rattle.packed_rows.proofs.Counts.{word_counted, bits_so_far}
use Rattle.packed_rows.proofs.ones.count_ones.Goals as goal

pub loop-i-preserved : goal.loop-i-preserved
loop-i-preserved c =
    word_counted c.args.bytes.now c.loop-i.i c.loop-i.count c.word_at.result c.from-count.result c.loop-i-test.true (search rules) (λ k. c.type_inv.bytes k) c.word_at.ensures c.loop-i.invariant c.from-count.ensures

pub overflow_add-count : goal.overflow_add-count
overflow_add-count c =
    omega (
      arith,
      c.requires.few,
      c.loop-i-test.true,
      bits_so_far c.args.bytes.now (8 * (c.loop-i.i + 1)) (λ k. c.type_inv.bytes k) (omega (arith, c.loop-i-test.true)),
      word_counted c.args.bytes.now c.loop-i.i c.loop-i.count c.word_at.result c.from-count.result c.loop-i-test.true (search rules) (λ k. c.type_inv.bytes k) c.word_at.ensures c.loop-i.invariant c.from-count.ensures,
    )

pub returns : goal.returns
returns c =
    c.loop-i.invariant ∙ ap (sum_by count_ones) (take_all (8 * c.loop-i.i) c.args.bytes.now (omega (arith, c.loop-i-test.false, c.requires.whole)))
