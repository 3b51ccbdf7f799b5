use Rattle.page_workers.proofs.Rounds.{seated_may_draw, drawn_may_leave}
use Rattle.page_workers.proofs.laws.rounds.Goals as goal

pub returns : goal.returns
returns g c = record { seated = seated_may_draw g.F.FontSource.library; drawn = drawn_may_leave g.F.FontSource.library g.F.FontSource.faults g.F.FontSource.loads }
