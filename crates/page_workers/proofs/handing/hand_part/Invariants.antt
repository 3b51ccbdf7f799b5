use Rattle.std.proofs.Common.{◌-◌, length}
use Rattle.page_workers.specs.Claims.{claims_at}
use Rattle.page_workers.proofs.HandedParts.{HandedMidway}
use Rattle.page_workers.proofs.handing.hand_part.Given as goal

abbrev pub invariant-loop-page : goal.invariant-loop-page
invariant-loop-page g l =
    HandedMidway g.F.FontSource.library g.F.FontSource.faults g.F.FontSource.loads l.job.bench.now l.job.index.now l.job.sheet.now l.round.counter l.round.pages.first l.round.pages.count l.initial.worker l.worker

abbrev pub decreases-loop-page : goal.decreases-loop-page
decreases-loop-page g l = l.round.pages.count - length (claims_at l.worker.counter)
