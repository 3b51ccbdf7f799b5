use Rattle.std.proofs.Common.{None}
use Rattle.run_cases.proofs.outcome.run.Given as goal

abbrev pub ghost-dvipbm_run : goal.ghost-dvipbm_run
ghost-dvipbm_run g a = None
