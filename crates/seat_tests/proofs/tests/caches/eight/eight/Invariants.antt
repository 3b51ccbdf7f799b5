use Rattle.std.proofs.Common.{◌-◌, ◌^◌}
use Rattle.seat_tests.specs.Samples.{part_of}
use Rattle.seat_tests.proofs.tests.caches.eight.eight.Given as goal

abbrev pub ghost-make : goal.ghost-make
ghost-make g a = part_of 3 (2 ^ 64 - 1)
