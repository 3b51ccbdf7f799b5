use Rattle.std.proofs.Common.{◌≤◌, ◌+◌, ◌^◌}
use Rattle.cache_seats.proofs.looking.look_ups.Given as goal

abbrev pub invariant-loop-i : goal.invariant-loop-i
invariant-loop-i g l = record {
  ready : g.L.Looker.ready l.looker;
  room : 2 ^ 40 ≤ g.L.Looker.room l.looker + l._i;
}
