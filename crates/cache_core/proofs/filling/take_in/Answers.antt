use Rattle.std.proofs.Common.{◌≡◌, true, ◌∷◌, take, arith, sym, ap, ◌∙◌, subst}
use Rattle.std.specs.Arc.{arc_value}
use Rattle.std.specs.Map.{lookup}
use Rattle.cache_core.specs.declared.calls.Done.TheVariants.{Filled}
use Rattle.cache_core.specs.Machine.{key_eq, stay, gone_of}
use Rattle.cache_core.specs.Views.{claims_of, fonts_of, weighed}
use Rattle.cache_core.specs.States.{machine_of, call, Takes}
use Rattle.cache_core.proofs.FontLists.{values_after, added_found}
use Rattle.cache_core.proofs.Turns.{fill_takes}
use Rattle.cache_core.proofs.filling.take_in.Goals as goal

pub returns-clause-taken : goal.returns-clause-taken
returns-clause-taken g c =
    let weight : c.weight-weight.result ≡ g.T.Stands.weighs (arc_value c.args.value) = c.weight-weight.ensures ∙ ap g.T.Stands.weighs c.deref.ensures in
    let light = c.if-limits-weight.false in
    subst (λ l. Takes c.args.limits (machine_of g.T.Stands.weighs (fonts_of c.args.resident.now.fonts.entries) (claims_of c.args.claims.now.items))
    (machine_of g.T.Stands.weighs (fonts_of c.store.new.resident.fonts.entries) l) (call c.args.seat (arc_value c.args.key.now) (Filled (g.T.Stands.weighs (arc_value c.args.value)) true c.in_ok-stored.stored.answered)))
    (sym c.end-key-2.ensures.rest)
    (fill_takes g.T.Stands.weighs c.args.limits (fonts_of c.args.resident.now.fonts.entries) (claims_of c.args.claims.now.items) c.args.seat (arc_value c.args.key.now)
    (fonts_of c.store.new.resident.fonts.entries) (arc_value c.args.value) c.in_ok-stored.stored.answered c.requires.claim (omega arith)
    (c.in_ok-stored.ensures.answered
    ∙ ap (λ n. gone_of c.args.limits ((arc_value c.args.key.now, n) ∷ weighed g.T.Stands.weighs (fonts_of c.args.resident.now.fonts.entries))) weight)
    (c.in_ok-stored.ensures.kept
    ∙ ap (λ n. take (stay c.args.limits ((arc_value c.args.key.now, n) ∷ weighed g.T.Stands.weighs (fonts_of c.args.resident.now.fonts.entries)))
    ((arc_value c.args.key.now, arc_value c.args.value) ∷ fonts_of c.args.resident.now.fonts.entries)) weight))

pub returns-clause-fonts : goal.returns-clause-fonts
returns-clause-fonts g c = λ j found h.
    values_after (arc_value c.args.key.now) j (arc_value c.args.value) found _ (fonts_of c.args.resident.now.fonts.entries)
    (sym (ap (lookup (key_eq j)) c.in_ok-stored.ensures.kept) ∙ h)

pub returns-clause-stored : goal.returns-clause-stored
returns-clause-stored g c = λ t.
    ap (lookup (key_eq (arc_value c.args.key.now))) c.in_ok-stored.ensures.kept
    ∙ added_found (arc_value c.args.key.now) (arc_value c.args.value) _ (fonts_of c.args.resident.now.fonts.entries) c.in_ok-stored.ensures.some
