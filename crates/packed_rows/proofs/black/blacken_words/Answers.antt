use Rattle.std.proofs.Common.{◌+◌, arith}
use Rattle.std.proofs.Math.Nat.{mul-le-mul_right}
use Rattle.packed_rows.proofs.Blackened.{blackened_none}
use Rattle.packed_rows.proofs.BlackWords.{row_blackened, blackened_on}
use Rattle.packed_rows.proofs.black.blacken_words.Goals as goal

pub loop-y-init : goal.loop-y-init
loop-y-init c = blackened_none c.args.stride c.args.columns.from c.args.columns.until c.args.rows.from c.args.bytes.now

pub join_word-requires : goal.join_word-requires
join_word-requires c =
    omega (arith, c.loop-y-test.true, c.requires.inside, c.requires.some, c.requires.whole, c.loop-y.invariant.len, mul-le-mul_right c.args.stride c.loop-y-test.true)

pub loop-y-preserved : goal.loop-y-preserved
loop-y-preserved c =
    blackened_on c.args.stride c.args.columns.from c.args.columns.until c.args.rows.from c.loop-y.y (c.loop-y.y + 1) c.args.bytes.now c.loop-y.bytes c.join_word.new.row c.loop-y.auto.y (omega arith)
    (row_blackened c.args.stride c.args.columns.from c.args.columns.until c.loop-y.y c.span_word-word.result c.loop-y.bytes c.join_word.new.row c.requires.some c.requires.in_word c.requires.inside
    c.join_word.ensures.len (λ j. omega (arith, c.type_inv.bytes j)) c.span_word-word.ensures c.join_word.ensures.pixels)
    c.loop-y.invariant
