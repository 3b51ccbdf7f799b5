use Rattle.std.proofs.Common.{None}
use Rattle.cache_seats.proofs.seats.rate_by_turns.Given as goal

abbrev pub ghost-make : goal.ghost-make
ghost-make g a = record { capacity = 2; budget = 0; units = record { num = 1; den = 1; mag = 1; res = 1 }; library = None }
