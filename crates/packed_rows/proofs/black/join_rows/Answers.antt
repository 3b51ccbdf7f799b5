use Rattle.std.proofs.Common.{arith}
use Rattle.std.proofs.Math.Nat.{mul-le-mul_right}
use Rattle.packed_rows.proofs.JoinedRows.{joined_none, joined_more}
use Rattle.packed_rows.proofs.black.join_rows.Goals as goal

pub loop-y-init : goal.loop-y-init
loop-y-init c = record {
  joined = joined_none c.args.stride c.args.word c.args.rows.from c.args.bytes.now;
  small = λ i. omega (arith, c.type_inv.bytes i);
}

pub join_word-requires : goal.join_word-requires
join_word-requires c =
    omega (arith, c.loop-y-test.true, c.requires.whole, c.loop-y.invariant.joined.len, mul-le-mul_right c.args.stride c.loop-y-test.true)

pub loop-y-preserved : goal.loop-y-preserved
loop-y-preserved c = record {
  joined = joined_more c.args.stride c.args.word c.args.rows.from c.loop-y.y c.args.bytes.now c.loop-y.bytes c.join_word.new.row c.requires.small c.loop-y.auto.y
      c.join_word.ensures.len c.requires.white c.join_word.ensures.pixels c.loop-y.invariant.joined;
  small = λ i. omega (arith, c.type_inv.bytes i);
}
