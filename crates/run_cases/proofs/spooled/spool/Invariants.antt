use Rattle.std.proofs.Common.{None}
use Rattle.run_cases.proofs.spooled.spool.Given as goal

abbrev pub ghost-spool_run : goal.ghost-spool_run
ghost-spool_run g a = None
