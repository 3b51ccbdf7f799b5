use Rattle.std.proofs.Common.{◌≡◌, suc, length, map, refl, ap, ◌∙◌, subst, arith}
use Rattle.std.specs.Arc.{arc_value}
use Rattle.cache_core.specs.declared.calls.Done.TheVariants.{Hit}
use Rattle.cache_core.specs.declared.entry.Act.TheVariants as act
use Rattle.cache_core.specs.States.{call}
use Rattle.cache_core.specs.Views.{calls_of, fonts_of}
use Rattle.cache_core.proofs.Changes.{noted}
use Rattle.cache_core.proofs.NotedHits.{Noting, is_there, in_front, one_noted}
use Rattle.cache_core.proofs.hits.note_found.Goals as goal

pub loop-key-preserved : goal.loop-key-preserved
loop-key-preserved g c =
    let i = c.loop-key.invariant in
    let key = c.in-Some.key in
    let k = arc_value key in
    let old = c.loop-key.fonts.entries in
    let new = c.next_found.new.fonts.entries in
    let out = c.in-Some.ensures.taken_out in
    let before = subst (λ left. Noting g.T.Stands.weighs c.args.seat (fonts_of c.args.fonts.now.entries) (fonts_of c.loop-key.fonts.entries) (calls_of c.args.entries.now.items) (calls_of c.loop-key.entries.items) (map arc_value c.args.keys.now.items) left) (ap (map arc_value) out) i.noted in
    record {
      noted = one_noted g.T.Stands.weighs c.args.seat (fonts_of c.args.fonts.now.entries) (calls_of c.args.entries.now.items) (map arc_value c.args.keys.now.items)
          (fonts_of old) (fonts_of new) (calls_of c.loop-key.entries.items) (calls_of c.push_reserved.new.self.items) k (map arc_value c.next_found.new.keys.items) before
          (is_there g.T.Stands.weighs k old new c.in-Some.ensures.moved c.in-Some.ensures.found) (in_front g.T.Stands.weighs k old new c.in-Some.ensures.moved)
          (noted c.loop-key.entries.items c.push_reserved.new.self.items (record { seat = c.args.seat; key = key; act = act.Hit }) (call c.args.seat k Hit) c.push_reserved.ensures.items refl);
      cap = c.in-Some.ensures.capacity ∙ i.cap;
      count =
          let count = i.count in
          let len = c.push_reserved.ensures.len in
          let less : length c.loop-key.keys.items ≡ suc (length c.next_found.new.keys.items) = ap length out in
          omega arith;
      room = c.push_reserved.ensures.capacity ∙ i.room;
    }
