use Rattle.std.proofs.Common.{◌≡◌, true, false, sym, ap, ◌∙◌, subst}
use Rattle.std.specs.Option.{option_map}
use Rattle.std.specs.Map.{lookup}
use Rattle.std.specs.Arc.{arc_value}
use Rattle.cache_core.specs.declared.calls.Done.TheVariants as done
use Rattle.cache_core.specs.Machine.{key_eq, claims_key, weights}
use Rattle.cache_core.specs.Views.{fonts_of, claims_of, weighed}
use Rattle.cache_core.specs.States.{machine_of, call, Takes}
use Rattle.cache_core.proofs.FontLists.{same_values, weights_moved}
use Rattle.cache_core.proofs.Resident.{weights_forward}
use Rattle.cache_core.proofs.Turns.{hit_takes, busy_takes, claim_takes}
use Rattle.cache_core.proofs.looking.answer.Goals as goal

pub returns-in-Some-clause-taken : goal.returns-in-Some-clause-taken
returns-in-Some-clause-taken g c =
    λ limits. hit_takes g.T.Stands.weighs limits (fonts_of c.args.resident.now.entries) (claims_of c.args.claims.now.items) c.args.seat (arc_value c.args.key.now)
    (fonts_of c.find.new.fonts.entries) (arc_value c.in-Some.font) c.requires.free (sym c.in_ok-font.ensures.found ∙ ap (option_map arc_value) c.in-Some.is) c.in_ok-font.ensures.moved

pub returns-in-Some-clause-total : goal.returns-in-Some-clause-total
returns-in-Some-clause-total g c =
    ap (λ l. weights (weighed g.T.Stands.weighs l)) c.in_ok-font.ensures.moved
    ∙ (ap weights (weights_moved g.T.Stands.weighs (arc_value c.args.key.now) (fonts_of c.args.resident.now.entries))
    ∙ weights_forward (arc_value c.args.key.now) (weighed g.T.Stands.weighs (fonts_of c.args.resident.now.entries)))

pub returns-in-Some-clause-fonts : goal.returns-in-Some-clause-fonts
returns-in-Some-clause-fonts g c = λ j. ap (lookup (key_eq j)) c.in_ok-font.ensures.moved ∙ same_values j (arc_value c.args.key.now) (fonts_of c.args.resident.now.entries)

pub returns-then-is_claimed-clause-taken : goal.returns-then-is_claimed-clause-taken
returns-then-is_claimed-clause-taken g c =
    λ limits. let claimed : claims_key (arc_value c.args.key.now) (claims_of c.args.claims.now.items) ≡ true = cc (c.deref.ensures.value, c.is_claimed.ensures, c.if-is_claimed.true) in
    subst (λ f. Takes limits (machine_of g.T.Stands.weighs (fonts_of c.args.resident.now.entries) (claims_of c.args.claims.now.items)) (machine_of g.T.Stands.weighs (fonts_of f.entries) (claims_of c.args.claims.now.items)) (call c.args.seat (arc_value c.args.key.now) done.Busy))
    (sym (c.in_ok-font.ensures.none c.in_default.is))
    (busy_takes g.T.Stands.weighs limits (fonts_of c.args.resident.now.entries) (claims_of c.args.claims.now.items) c.args.seat (arc_value c.args.key.now)
    c.requires.free (sym c.in_ok-font.ensures.found ∙ ap (option_map arc_value) c.in_default.is) claimed)

pub returns-then-is_claimed-clause-fonts : goal.returns-then-is_claimed-clause-fonts
returns-then-is_claimed-clause-fonts g c = λ j. ap (λ f. lookup (key_eq j) (fonts_of f.entries)) (c.in_ok-font.ensures.none c.in_default.is)

pub returns-clause-taken : goal.returns-clause-taken
returns-clause-taken g c =
    λ limits. let unclaimed : claims_key (arc_value c.args.key.now) (claims_of c.args.claims.now.items) ≡ false = cc (c.deref.ensures.value, c.is_claimed.ensures, c.if-is_claimed.false) in
    subst (λ f. Takes limits (machine_of g.T.Stands.weighs (fonts_of c.args.resident.now.entries) (claims_of c.args.claims.now.items)) (machine_of g.T.Stands.weighs (fonts_of f.entries) (claims_of c.add_claim.new.claims.items)) (call c.args.seat (arc_value c.args.key.now) done.Claimed))
    (sym (c.in_ok-font.ensures.none c.in_default.is))
    (subst (λ l. Takes limits (machine_of g.T.Stands.weighs (fonts_of c.args.resident.now.entries) (claims_of c.args.claims.now.items)) (machine_of g.T.Stands.weighs (fonts_of c.args.resident.now.entries) l) (call c.args.seat (arc_value c.args.key.now) done.Claimed))
    (sym c.in_ok-add_claim.ensures.added)
    (claim_takes g.T.Stands.weighs limits (fonts_of c.args.resident.now.entries) (claims_of c.args.claims.now.items) c.args.seat (arc_value c.args.key.now)
    c.requires.free (sym c.in_ok-font.ensures.found ∙ ap (option_map arc_value) c.in_default.is) unclaimed))

pub returns-clause-fonts : goal.returns-clause-fonts
returns-clause-fonts g c = λ j. ap (λ f. lookup (key_eq j) (fonts_of f.entries)) (c.in_ok-font.ensures.none c.in_default.is)
