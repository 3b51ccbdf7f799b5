use Rattle.dvi_run.proofs.Prefixes.{faults_end_the_run, runs_end, runs_of_good_pages}
use Rattle.dvi_run.proofs.laws.texts.Goals as goal

pub returns-clause-good : goal.returns-clause-good
returns-clause-good c = runs_of_good_pages

pub returns-clause-stopped : goal.returns-clause-stopped
returns-clause-stopped c = runs_end

pub returns-clause-ended : goal.returns-clause-ended
returns-clause-ended c = faults_end_the_run
