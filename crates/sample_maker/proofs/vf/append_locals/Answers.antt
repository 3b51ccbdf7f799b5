use Rattle.sample_maker.specs.VfFile.{IsLocalSpelled, local_item}
use Rattle.sample_maker.proofs.Loops.{all_more, all_taken, appended_more}
use Rattle.sample_maker.proofs.vf.append_locals.Goals as goal

pub loop-i-preserved : goal.loop-i-preserved
loop-i-preserved c = record {
  items = appended_more c.args.locals.now c.loop-i.i local_item c.args.out.now.items c.loop-i.out.items _ c.index-locals-i.result c.loop-i-test.true c.index-locals-i.is c.loop-i.invariant.items c.in_ok-append_local.ensures.appended;
  spelled = all_more c.args.locals.now c.loop-i.i IsLocalSpelled c.index-locals-i.result c.loop-i-test.true c.index-locals-i.is c.loop-i.invariant.spelled c.append_local.ensures.spelled;
}

pub returns-clause-spelled : goal.returns-clause-spelled
returns-clause-spelled c = all_taken c.args.locals.now c.loop-i.i IsLocalSpelled c.loop-i-test.false c.loop-i.invariant.spelled
