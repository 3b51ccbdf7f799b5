use Rattle.std.proofs.Common.{◌≡◌, ◌∙◌, ap, arith}
use Rattle.pk_packer.specs.Counts.{nybbles_past, sum_below, taken}
use Rattle.pk_packer.proofs.Sums.{few_before, first_taken, sum_next}
use Rattle.pk_packer.proofs.tally.Tally.len_before.Goals as goal

pub overflow_add-len : goal.overflow_add-len
overflow_add-len c = omega (arith, few_before c.args.self.now c.loop-turn.turn c.requires, c.loop-turn.invariant, c.loop-turn-test.true, c.requires c.loop-turn.turn)

pub loop-turn-preserved : goal.loop-turn-preserved
loop-turn-preserved c =
    omega (arith, c.loop-turn.invariant, sum_next (taken c.args.self.now 0) c.loop-turn.turn, first_taken c.args.self.now c.loop-turn.turn)

pub returns-clause-value : goal.returns-clause-value
unfolding nybbles_past
returns-clause-value c =
    let all : c.loop-turn.turn ≡ 15 = omega (arith, c.loop-turn-test.false, c.loop-turn.auto.turn-end) in
    c.loop-turn.invariant ∙ ap (sum_below (taken c.args.self.now 0)) all

pub returns-clause-few : goal.returns-clause-few
returns-clause-few c = omega (arith, few_before c.args.self.now c.loop-turn.turn c.requires, c.loop-turn.invariant, c.loop-turn.auto.turn-end)
