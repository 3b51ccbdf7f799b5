use Rattle.std.proofs.Common.{◌≡◌, suc, ◌+◌, None, [], ◌∷◌, ◌++◌, length, map, take, drop, reverse, arith, sym, ap, ◌∙◌, subst}
use Rattle.std.specs.Arc.{arc_value}
use Rattle.std.specs.Map.{lookup, values_of}
use Rattle.std.proofs.lemmas.List.{take-map}
use Rattle.cache_core.specs.Machine.{key_eq, weights, stay}
use Rattle.cache_core.specs.Views.{fonts_of, weighed}
use Rattle.cache_core.proofs.ArcLists.{puts}
use Rattle.cache_core.proofs.Leaving.{font_seen, gone_are, gone_count, fonts_behind, left_are}
use Rattle.cache_core.proofs.fonts.store.Goals as goal

pub overflow_add-stay : goal.overflow_add-stay
overflow_add-stay g c =
    let some = c.in-Ok.ensures.some in
    let few = c.requires.few in
    let most = c.requires.few_fonts in
    omega arith

pub drop_oldest-requires : goal.drop_oldest-requires
drop_oldest-requires g c =
    let key : arc_value c.in-Ok-try_clone.kept ≡ arc_value c.args.key.now = c.in-Ok-try_clone.ensures in
    let new : lookup (key_eq (arc_value c.in-Ok-try_clone.kept)) (fonts_of c.args.resident.now.fonts.entries) ≡ None = subst (λ k. lookup (key_eq k) (fonts_of c.args.resident.now.fonts.entries) ≡ None) (sym key) c.requires.missing in
    let few = c.requires.few in
    let places = c.requires.places in
    let pushed : c.push.new.self.entries ≡ (c.in-Ok-try_clone.kept, c.args.font) ∷ c.args.resident.now.fonts.entries =
    ap (λ l. l.entries) c.in_default-push.ensures.entries ∙ puts c.args.resident.now.fonts c.in-Ok-try_clone.kept c.args.font new (omega arith) in
    let more : length c.push.new.self.entries ≡ suc (length c.args.resident.now.fonts.entries) = ap length pushed in
    let count = gone_count c.in-Ok.leavers.stay c.args.resident.now.fonts.entries c.in-Ok.leavers.noted.items c.in-Ok.ensures.noted in
    let some = c.in-Ok.ensures.some in
    let len = c.len.ensures in
    let empty = c.new-left.ensures.len in
    let same = c.reserve.ensures.len in
    let reserved = c.in-Ok-reserve.ensures.ok in
    record { room = omega arith; some = omega arith }

pub returns-clause-answered : goal.returns-clause-answered
returns-clause-answered g c =
    c.new.ensures ∙ (c.in-Ok.ensures.answered ∙ (c.in-Ok.ensures.noted ∙ sym (gone_are g.T.Stands.weighs c.args.limits (arc_value c.args.key.now) c.args.weight
    c.in-Ok.leavers.stay (fonts_of c.args.resident.now.fonts.entries) (c.in-Ok.ensures.stay (arc_value c.args.key.now)))))

pub returns-clause-left : goal.returns-clause-left
returns-clause-left g c =
    let key : arc_value c.in-Ok-try_clone.kept ≡ arc_value c.args.key.now = c.in-Ok-try_clone.ensures in
    let new : lookup (key_eq (arc_value c.in-Ok-try_clone.kept)) (fonts_of c.args.resident.now.fonts.entries) ≡ None = subst (λ k. lookup (key_eq k) (fonts_of c.args.resident.now.fonts.entries) ≡ None) (sym key) c.requires.missing in
    let few = c.requires.few in
    let places = c.requires.places in
    let pushed : c.push.new.self.entries ≡ (c.in-Ok-try_clone.kept, c.args.font) ∷ c.args.resident.now.fonts.entries =
    ap (λ l. l.entries) c.in_default-push.ensures.entries ∙ puts c.args.resident.now.fonts c.in-Ok-try_clone.kept c.args.font new (omega arith) in
    let empty : c.reserve.new.self.items ≡ [] = c.reserve.ensures.items ∙ c.new-left.ensures.items in
    let stays : stay c.args.limits ((arc_value c.args.key.now, g.T.Stands.weighs (arc_value c.args.font)) ∷ weighed g.T.Stands.weighs (fonts_of c.args.resident.now.fonts.entries)) ≡ c.in-Ok.leavers.stay + 1 =
    ap (λ w. stay c.args.limits ((arc_value c.args.key.now, w) ∷ weighed g.T.Stands.weighs (fonts_of c.args.resident.now.fonts.entries))) (sym c.requires.weight) ∙ c.in-Ok.ensures.stay (arc_value c.args.key.now) in
    c.drop_oldest.ensures.left ∙ ((λ i. map arc_value (empty i) ++ reverse (values_of (drop (c.in-Ok.leavers.stay + 1) (fonts_of (pushed i)))))
    ∙ (ap (λ l. reverse (values_of l)) (fonts_behind c.in-Ok.leavers.stay (arc_value c.in-Ok-try_clone.kept, arc_value c.args.font) (fonts_of c.args.resident.now.fonts.entries))
    ∙ sym (left_are g.T.Stands.weighs c.args.limits (arc_value c.args.key.now) (arc_value c.args.font) c.in-Ok.leavers.stay (fonts_of c.args.resident.now.fonts.entries) stays)))

pub returns-clause-kept : goal.returns-clause-kept
returns-clause-kept g c =
    let key : arc_value c.in-Ok-try_clone.kept ≡ arc_value c.args.key.now = c.in-Ok-try_clone.ensures in
    let new : lookup (key_eq (arc_value c.in-Ok-try_clone.kept)) (fonts_of c.args.resident.now.fonts.entries) ≡ None = subst (λ k. lookup (key_eq k) (fonts_of c.args.resident.now.fonts.entries) ≡ None) (sym key) c.requires.missing in
    let few = c.requires.few in
    let places = c.requires.places in
    let pushed : c.push.new.self.entries ≡ (c.in-Ok-try_clone.kept, c.args.font) ∷ c.args.resident.now.fonts.entries =
    ap (λ l. l.entries) c.in_default-push.ensures.entries ∙ puts c.args.resident.now.fonts c.in-Ok-try_clone.kept c.args.font new (omega arith) in
    let stays = c.in-Ok.ensures.stay (arc_value c.args.key.now) in
    ap (λ l. fonts_of l.entries) c.drop_oldest.ensures.kept ∙ (ap (λ l. fonts_of (take (c.in-Ok.leavers.stay + 1) l)) pushed
    ∙ (sym (take-map font_seen (c.in-Ok.leavers.stay + 1) ((c.in-Ok-try_clone.kept, c.args.font) ∷ c.args.resident.now.fonts.entries))
    ∙ λ i. take (sym stays i) ((key i, arc_value c.args.font) ∷ fonts_of c.args.resident.now.fonts.entries)))

pub returns-clause-total : goal.returns-clause-total
returns-clause-total g c =
    let key : arc_value c.in-Ok-try_clone.kept ≡ arc_value c.args.key.now = c.in-Ok-try_clone.ensures in
    let new : lookup (key_eq (arc_value c.in-Ok-try_clone.kept)) (fonts_of c.args.resident.now.fonts.entries) ≡ None = subst (λ k. lookup (key_eq k) (fonts_of c.args.resident.now.fonts.entries) ≡ None) (sym key) c.requires.missing in
    let few = c.requires.few in
    let places = c.requires.places in
    let pushed : c.push.new.self.entries ≡ (c.in-Ok-try_clone.kept, c.args.font) ∷ c.args.resident.now.fonts.entries =
    ap (λ l. l.entries) c.in_default-push.ensures.entries ∙ puts c.args.resident.now.fonts c.in-Ok-try_clone.kept c.args.font new (omega arith) in
    let one : c.in-Ok.leavers.stay + 1 ≡ suc c.in-Ok.leavers.stay = omega arith in
    let entries : c.drop_oldest.new.fonts.entries ≡ (c.in-Ok-try_clone.kept, c.args.font) ∷ take c.in-Ok.leavers.stay c.args.resident.now.fonts.entries =
    ap (λ l. l.entries) c.drop_oldest.ensures.kept ∙ (ap (take (c.in-Ok.leavers.stay + 1)) pushed ∙ ap (λ n. take n ((c.in-Ok-try_clone.kept, c.args.font) ∷ c.args.resident.now.fonts.entries)) one) in
    (λ i. c.requires.weight i + c.in-Ok.ensures.rest i) ∙ sym (ap (λ l. weights (weighed g.T.Stands.weighs (fonts_of l))) entries)
