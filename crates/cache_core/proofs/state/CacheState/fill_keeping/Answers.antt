use Rattle.std.proofs.Common.{◌≡◌, Some, arith, refl, ap, ◌∙◌}
use Rattle.std.specs.Arc.{arc_value}
use Rattle.std.proofs.lemmas.List.{length-map}
use Rattle.cache_core.specs.declared.calls.Done.TheVariants.{Filled}
use Rattle.cache_core.specs.Machine.{claim_of}
use Rattle.cache_core.specs.Views.{calls_of, claims_of, fonts_of}
use Rattle.cache_core.specs.States.{call}
use Rattle.cache_core.proofs.Changes.{call_reaches, fill_stands_if}
use Rattle.cache_core.proofs.Leaving.{font_seen}
use Rattle.cache_core.proofs.Turns.{claimed_is_missing, few_fonts}
use Rattle.cache_core.proofs.state.CacheState.fill_keeping.Goals as goal

pub take_in-requires-clause-missing : goal.take_in-requires-clause-missing
take_in-requires-clause-missing g c =
    let holds : claim_of c.args.seat (claims_of c.self.inside.claims.items) ≡ Some (arc_value c.args.key.now) = ap (λ v. claim_of c.args.seat v.claims) c.self.view_is ∙ c.requires.claim in
    claimed_is_missing g.T.Stands.weighs
    (record { limits = c.self.inside.limits; fonts = fonts_of c.self.inside.resident.fonts.entries; claims = claims_of c.self.inside.claims.items; history = calls_of c.self.inside.entries.items; turns = 0 })
    c.args.seat (arc_value c.args.key.now) c.self.invariant.reached holds

pub take_in-requires-clause-few : goal.take_in-requires-clause-few
take_in-requires-clause-few g c =
    let few = few_fonts g.T.Stands.weighs
    (record { limits = c.self.inside.limits; fonts = fonts_of c.self.inside.resident.fonts.entries; claims = claims_of c.self.inside.claims.items; history = calls_of c.self.inside.entries.items; turns = 0 })
    c.self.invariant.reached in
    let same = length-map c.self.inside.resident.fonts.entries font_seen in
    omega arith

pub invariant_of-self : goal.invariant_of-self
invariant_of-self g c = record {
  reached = call_reaches g.T.Stands.weighs c.self.inside.limits c.self.inside.resident.fonts c.take_in.new.resident.fonts c.self.inside.claims.items c.take_in.new.claims.items c.self.inside.entries.items c.take_in.new.entries.items
      (λ f. call c.args.seat (arc_value c.args.key.now) (Filled (g.T.Stands.weighs (arc_value c.args.value)) f.fill.kept f.fill.gone)) c.take_in.result c.self.invariant.reached c.take_in.ensures.taken c.take_in.ensures.noted c.take_in.ensures.same;
  some_font = c.self.invariant.some_font;
  few_fonts = c.self.invariant.few_fonts;
  one_more = c.take_in.ensures.capacity ∙ c.self.invariant.one_more;
  total = c.take_in.ensures.total;
  can_end = c.take_in.ensures.can_end;
}

pub returns-clause-reached : goal.returns-clause-reached
returns-clause-reached g c =
    call_reaches g.T.Stands.weighs c.self.inside.limits c.self.inside.resident.fonts c.take_in.new.resident.fonts c.self.inside.claims.items c.take_in.new.claims.items c.self.inside.entries.items c.take_in.new.entries.items
    (λ f. call c.args.seat (arc_value c.args.key.now) (Filled (g.T.Stands.weighs (arc_value c.args.value)) f.fill.kept f.fill.gone)) c.take_in.result c.self.invariant.reached c.take_in.ensures.taken c.take_in.ensures.noted c.take_in.ensures.same

pub returns-clause-stands : goal.returns-clause-stands
returns-clause-stands g c =
    fill_stands_if g.T.Stands.weighs c.self.inside.limits c.self.inside.resident.fonts c.take_in.new.resident.fonts c.self.inside.claims.items c.take_in.new.claims.items c.self.inside.entries.items c.take_in.new.entries.items
    g.T.Stands.stands_for c.args.self.now _ (arc_value c.args.key.now) (arc_value c.args.value) c.take_in.result (ap (λ v. v.limits) c.self.view_is) (ap (λ v. v.fonts) c.self.view_is) refl
    (call_reaches g.T.Stands.weighs c.self.inside.limits c.self.inside.resident.fonts c.take_in.new.resident.fonts c.self.inside.claims.items c.take_in.new.claims.items c.self.inside.entries.items c.take_in.new.entries.items
    (λ f. call c.args.seat (arc_value c.args.key.now) (Filled (g.T.Stands.weighs (arc_value c.args.value)) f.fill.kept f.fill.gone)) c.take_in.result c.self.invariant.reached c.take_in.ensures.taken c.take_in.ensures.noted c.take_in.ensures.same)
    c.take_in.ensures.fonts c.take_in.ensures.same
