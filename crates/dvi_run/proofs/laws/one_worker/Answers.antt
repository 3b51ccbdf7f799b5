use Rattle.dvi_run.proofs.OneWorker.{one_worker}
use Rattle.dvi_run.proofs.OneWorkerCalls.{one_history_by}
use Rattle.dvi_run.proofs.laws.one_worker.Goals as goal

pub returns-clause-alike : goal.returns-clause-alike
returns-clause-alike g c = one_worker _ _ c.runs.ensures.reading c.runs.ensures.values c.values.ensures.one c.weights.ensures.one

pub returns-clause-history : goal.returns-clause-history
returns-clause-history g c = one_history_by _ c.weights.ensures.one
