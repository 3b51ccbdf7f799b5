use Rattle.std.proofs.Common.{None}
use Rattle.overlap_tests.proofs.tests.runs.run.Given as goal

abbrev pub ghost-run_with : goal.ghost-run_with
ghost-run_with g a = None
