use Rattle.page_index.proofs.Passed.{one_more_passed}
use Rattle.page_index.proofs.walk.after_skippable.Goals as goal

pub loop-next-preserved : goal.loop-next-preserved
loop-next-preserved c = one_more_passed c.args.bytes.now c.args.at c.loop-next.end c.in-Some.next c.loop-next.invariant c.in-Some.ensures.skippable
