use Rattle.std.proofs.Common.{None}
use Rattle.overlap_tests.proofs.tests.jobs.two_jobs.draw_one.Given as goal

abbrev pub ghost-draw_job : goal.ghost-draw_job
ghost-draw_job g a = None
