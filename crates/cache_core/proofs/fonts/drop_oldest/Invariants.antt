use Rattle.std.proofs.Common.{◌≡◌, ◌+◌, ◌≤◌, ◌++◌, length, map, take, reverse}
use Rattle.std.specs.Arc.{arc_value}
use Rattle.std.specs.Vec.{vec_len, vec_capacity}
use Rattle.cache_core.proofs.TakenOut.{values_behind}
use Rattle.cache_core.proofs.fonts.drop_oldest.Given as goal

abbrev pub invariant-loop : goal.invariant-loop
invariant-loop g l = record {
  stays : l.fonts.entries ≡ take (length l.fonts.entries) l.fn.fonts.entries;
  some : l.stay ≤ length l.fonts.entries;
  cap : l.fonts.cap ≡ l.fn.fonts.cap;
  count : length l.fonts.entries + l.counter ≡ length l.fn.fonts.entries + l.stay;
  room : vec_len l.left + length l.fonts.entries ≤ vec_capacity l.left + l.stay;
  gone : map arc_value l.left.items ≡ map arc_value l.fn.left.items
      ++ reverse (values_behind (length l.fonts.entries) l.fn.fonts.entries);
}
