use Rattle.std.proofs.Common.{◌≡◌}
use Rattle.turn_lock.proofs.lock.TurnLock.wait.Given as goal

abbrev pub invariant-loop : goal.invariant-loop
invariant-loop g l = record {
  table : l.place.table_id ≡ l.initial.place.table_id;
  me : l.place.me ≡ l.initial.place.me;
}
