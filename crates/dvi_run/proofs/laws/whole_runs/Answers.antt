use Rattle.dvi_run.specs.Laws.{OneReading}
use Rattle.dvi_run.proofs.OneRun.{one_run}
use Rattle.dvi_run.proofs.WholeRuns.{each_has_one}
use Rattle.dvi_run.proofs.laws.whole_runs.Goals as goal

pub returns : goal.returns
returns c =
    let reading : OneReading = λ g bytes r s v w a b. c.documents.ensures.one_reading g.res bytes r s a.document b.document in
    each_has_one c.values.ensures.exactly reading (one_run c.values.ensures.one reading)
