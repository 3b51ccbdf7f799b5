use Rattle.std.proofs.Common.{◌≡◌, ◌+◌, length, map}
use Rattle.std.specs.Arc.{arc_value}
use Rattle.std.specs.Vec.{vec_len, vec_capacity}
use Rattle.cache_core.specs.Views.{calls_of, fonts_of}
use Rattle.cache_core.proofs.NotedHits.{Noting}
use Rattle.cache_core.proofs.hits.note_found.Given as goal

abbrev pub invariant-loop-key : goal.invariant-loop-key
invariant-loop-key g l = record {
  noted : Noting g.T.Stands.weighs l.seat (fonts_of l.initial.fonts.entries) (fonts_of l.fonts.entries) (calls_of l.initial.entries.items) (calls_of l.entries.items) (map arc_value l.initial.keys.items) (map arc_value l.keys.items);
  cap : l.fonts.cap ≡ l.initial.fonts.cap;
  count : vec_len l.entries + length l.keys.items ≡ vec_len l.initial.entries + length l.initial.keys.items;
  room : vec_capacity l.entries ≡ vec_capacity l.initial.entries;
}

abbrev pub decreases-loop-key : goal.decreases-loop-key
decreases-loop-key g l = length l.keys.items
