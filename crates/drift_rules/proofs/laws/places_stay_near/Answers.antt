use Rattle.drift_rules.proofs.Near.{steps_keep_near, pages_keep_near}
use Rattle.drift_rules.proofs.laws.places_stay_near.Goals as goal

pub returns-clause-by_step : goal.returns-clause-by_step
returns-clause-by_step c = steps_keep_near

pub returns-clause-on_page : goal.returns-clause-on_page
returns-clause-on_page c = pages_keep_near
