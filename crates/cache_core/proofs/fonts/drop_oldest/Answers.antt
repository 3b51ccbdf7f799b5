use Rattle.std.proofs.Common.{◌≡◌, suc, ◌-◌, ◌++◌, length, map, take, reverse, slice_get, append-nil, arith, refl, sym, ap, ◌∙◌}
use Rattle.std.specs.Arc.{arc_value}
use Rattle.std.specs.Map.{values_of}
use Rattle.std.proofs.lemmas.List.{take-take, take_all, drop_all, length-take-le, length-map}
use Rattle.lru.specs.LruCache.{lru_cache}
use Rattle.cache_core.specs.Views.{fonts_of}
use Rattle.cache_core.proofs.Leaving.{font_seen}
use Rattle.cache_core.proofs.TakenOut.{values_behind, taken_out}
use Rattle.cache_core.proofs.fonts.drop_oldest.Goals as goal

pub loop-init : goal.loop-init
loop-init g c =
    let same : length (fonts_of c.args.fonts.now.entries) ≡ length c.args.fonts.now.entries = length-map c.args.fonts.now.entries font_seen in
    record {
      stays = sym (take_all (length c.args.fonts.now.entries) c.args.fonts.now.entries (omega arith));
      some = c.requires.some;
      cap = refl;
      count = refl;
      room = c.requires.room;
      gone = sym (ap (λ l. map arc_value c.args.left.now.items ++ reverse (values_of l)) (drop_all (length c.args.fonts.now.entries) (fonts_of c.args.fonts.now.entries) (omega arith))
          ∙ append-nil (map arc_value c.args.left.now.items));
    }

pub push_reserved-requires : goal.push_reserved-requires
push_reserved-requires g c =
    let i = c.loop.invariant in
    let room = i.room in
    let count = i.count in
    let inside = c.loop-test.true in
    let len = c.len-end.ensures.len in
    omega arith

pub loop-preserved : goal.loop-preserved
loop-preserved g c =
    let i = c.loop.invariant in
    let room = i.room in
    let some = i.some in
    let count = i.count in
    let inside = c.loop-test.true in
    let len = c.len-end.ensures.len in
    let one : suc (length c.loop.fonts.entries - 1) ≡ length c.loop.fonts.entries = omega arith in
    let entries : c.pop_oldest.new.fonts.entries ≡ take (length c.loop.fonts.entries - 1) c.loop.fonts.entries = ap (λ l. l.entries) c.pop_oldest.ensures.entries in
    let shorter : length c.pop_oldest.new.fonts.entries ≡ length c.loop.fonts.entries - 1 =
    ap length entries ∙ length-take-le (length c.loop.fonts.entries - 1) c.loop.fonts.entries (omega arith) in
    let last = ap (λ n. slice_get (take n c.args.fonts.now.entries) (length c.loop.fonts.entries - 1)) one
    ∙ (ap (λ l. slice_get l (length c.loop.fonts.entries - 1)) (sym i.stays) ∙ sym c.in-Some.ensures.value) in
    let pushed = c.push_reserved.ensures.len in
    let kept = c.push_reserved.ensures.capacity in
    record {
      stays = entries ∙ (ap (take (length c.loop.fonts.entries - 1)) i.stays
          ∙ (take-take (length c.loop.fonts.entries - 1) (length c.loop.fonts.entries) c.args.fonts.now.entries (omega arith)
          ∙ ap (λ n. take n c.args.fonts.now.entries) (sym shorter)));
      some = omega arith;
      cap = ap (λ l. l.cap) c.pop_oldest.ensures.entries ∙ i.cap;
      count = omega arith;
      room = omega arith;
      gone = taken_out (length c.loop.fonts.entries - 1) c.args.fonts.now.entries c.loop.left.items c.push_reserved.new.self.items (map arc_value c.args.left.now.items) last
          (i.gone ∙ ap (λ n. map arc_value c.args.left.now.items ++ reverse (values_behind n c.args.fonts.now.entries)) (sym one)) c.push_reserved.ensures.items
          ∙ ap (λ n. map arc_value c.args.left.now.items ++ reverse (values_behind n c.args.fonts.now.entries)) (sym shorter);
    }

pub returns-clause-kept : goal.returns-clause-kept
returns-clause-kept g c =
    let i = c.loop.invariant in
    let some = i.some in
    let count = i.count in
    let ended = c.loop-test.false in
    let len = c.len-end.ensures.len in
    let all : length c.loop.fonts.entries ≡ c.args.stay = omega arith in
    let front : c.loop.fonts.entries ≡ take c.args.stay c.args.fonts.now.entries = i.stays ∙ ap (λ n. take n c.args.fonts.now.entries) all in
    λ j. lru_cache (front j) (i.cap j)

pub returns-clause-left : goal.returns-clause-left
returns-clause-left g c =
    let i = c.loop.invariant in
    let some = i.some in
    let count = i.count in
    let ended = c.loop-test.false in
    let len = c.len-end.ensures.len in
    let all : length c.loop.fonts.entries ≡ c.args.stay = omega arith in
    i.gone ∙ ap (λ n. map arc_value c.args.left.now.items ++ reverse (values_behind n c.args.fonts.now.entries)) all
