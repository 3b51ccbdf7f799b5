use Rattle.turn_lock.specs.Diaries.{any_part}
use Rattle.seat_tests.proofs.tests.turns.late.late.Given as goal

abbrev pub ghost-make : goal.ghost-make
ghost-make g a = any_part
