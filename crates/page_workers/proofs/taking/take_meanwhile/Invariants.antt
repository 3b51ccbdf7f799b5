use Rattle.std.proofs.Common.{◌-◌, ◌≤◌, List}
use Rattle.page_workers.specs.declared.worker.PageResult.{PageResult}
use Rattle.page_workers.specs.Handing.{TookSome}
use Rattle.page_workers.proofs.taking.take_meanwhile.Given as goal

abbrev pub invariant-loop-taken : goal.invariant-loop-taken
invariant-loop-taken g l = record {
  most : l.taken ≤ l.pages.count;
  took : (results : List PageResult) × TookSome g.W.PageTaker.takes l.pages.first l.taken l.initial.inlets l.inlets results l.initial.taker l.initial.out l.taker l.out;
}

abbrev pub decreases-loop-taken : goal.decreases-loop-taken
decreases-loop-taken g l = l.pages.count - l.taken
