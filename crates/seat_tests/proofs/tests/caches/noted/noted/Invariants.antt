use Rattle.seat_tests.specs.Samples.{part_of}
use Rattle.seat_tests.proofs.tests.caches.noted.noted.Given as goal

abbrev pub ghost-make : goal.ghost-make
ghost-make g a = part_of 1 9
