use Rattle.job_spool.proofs.AllGiven.{all_given}
use Rattle.job_spool.proofs.Given.{given}
use Rattle.job_spool.proofs.laws.given_pairs.Goals as goal

pub returns-clause-given : goal.returns-clause-given
returns-clause-given c = given

pub returns-clause-all : goal.returns-clause-all
returns-clause-all c = all_given
