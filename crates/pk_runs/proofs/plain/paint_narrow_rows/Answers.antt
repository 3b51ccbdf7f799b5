use Rattle.std.proofs.Common.{ℕ, ◌≤◌, ◌*◌, subst, arith}
use Rattle.std.proofs.Math.Nat.{mul-le-mul_right}
use Rattle.packed_rows.specs.Packing.{pixel}
use Rattle.pk_runs.proofs.Complete.{IsPlainTo, plain_none, plain_all}
use Rattle.pk_runs.proofs.PlainWords.{plain_row}
use Rattle.pk_runs.proofs.plain.paint_narrow_rows.Goals as goal

pub loop-y-init : goal.loop-y-init
loop-y-init c = subst (λ (n : ℕ). IsPlainTo (pixel c.args.bytes.now) c.args.w c.args.h n c.args.bits) (omega arith)
    (plain_none (pixel c.args.bytes.now) c.args.w c.args.h c.args.bits c.requires.white)

pub loop-y-preserved : goal.loop-y-preserved
loop-y-preserved c = plain_row (pixel c.args.bytes.now) c.args.w c.args.h c.loop-y.y c.plain_word-word.result c.loop-y.bits c.join_rows.new.self c.requires.narrow c.join_rows.ensures c.plain_word-word.ensures c.loop-y.invariant

pub returns-clause-rows : goal.returns-clause-rows
returns-clause-rows c =
    let low : c.args.h ≤ c.loop-y.y = omega (arith, c.loop-y-test.false) in
    (plain_all c.args.bytes.now c.args.w c.args.h (c.loop-y.y * c.args.w) c.loop-y.bits (omega (arith, mul-le-mul_right c.args.w low)) c.requires.enough c.loop-y.invariant).2
