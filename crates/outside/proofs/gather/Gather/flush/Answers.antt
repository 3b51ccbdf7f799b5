use Rattle.outside.proofs.Growth.{failed_now}
use Rattle.outside.proofs.Pieces.{flushed}
use Rattle.outside.proofs.gather.Gather.flush.Goals as goal

pub returns-clause-gathers : goal.returns-clause-gathers
returns-clause-gathers g c start before text h = record {
  gathered = rw c.clear-2.ensures.items (flushed c.write_all.result c.args.self.now.failed c.is_err-self.result _ start _ _ text c.if-self.false c.is_err-self.ensures.value (rw c.deref.ensures.value at c.write_all.ensures.grew)
      (rw c.in-Some.is at h.gathered));
  cause = failed_now c.write_all.result before _ _ c.args.self.now.failed c.is_err-self.result c.is_err-self.ensures.value h.cause c.write_all.ensures.cause;
}
