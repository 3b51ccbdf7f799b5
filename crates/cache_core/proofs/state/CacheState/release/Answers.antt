use Rattle.std.proofs.Common.{◌≡◌, Some, ap, ◌∙◌, arith}
use Rattle.std.specs.Arc.{arc_value}
use Rattle.cache_core.specs.declared.calls.Done.TheVariants.{Released}
use Rattle.cache_core.specs.declared.entry.Act.TheVariants as act
use Rattle.cache_core.specs.Machine.{key_eq, claim_of}
use Rattle.cache_core.specs.Views.{calls_of, claims_of, fonts_of}
use Rattle.cache_core.specs.States.{call}
use Rattle.std.specs.Map.{lookup}
use Rattle.cache_core.proofs.Changes.{noted, release_reaches}
use Rattle.cache_core.proofs.Turns.{same_stands}
use Rattle.cache_core.proofs.state.CacheState.release.Goals as goal

pub invariant_of-self : goal.invariant_of-self
invariant_of-self g c =
    let holds : claim_of c.args.seat (claims_of c.self.inside.claims.items) ≡ Some (arc_value c.args.key.now) = ap (λ v. claim_of c.args.seat v.claims) c.self.view_is ∙ c.requires.claim in
    let key : arc_value c.end-key.result ≡ arc_value c.args.key.now = cc (holds, c.end-key.ensures.key) in
    record {
      reached = release_reaches g.T.Stands.weighs c.self.inside.limits (fonts_of c.self.inside.resident.fonts.entries) (claims_of c.self.inside.claims.items) (claims_of c.end-key.new.claims.items)
          (calls_of c.self.inside.entries.items) (calls_of c.push_reserved.new.self.items) c.args.seat (arc_value c.args.key.now) c.self.invariant.reached holds c.end-key.ensures.rest
          (noted c.self.inside.entries.items c.push_reserved.new.self.items (record { seat = c.args.seat; key = c.end-key.result; act = act.Released }) (call c.args.seat (arc_value c.args.key.now) Released)
          c.push_reserved.ensures.items (ap (λ k. call c.args.seat k Released) key));
      some_font = c.self.invariant.some_font;
      few_fonts = c.self.invariant.few_fonts;
      one_more = c.self.invariant.one_more;
      total = c.self.invariant.total;
      can_end = let was = c.self.invariant.can_end in omega arith;
    }

pub returns-clause-reached : goal.returns-clause-reached
returns-clause-reached g c =
    let holds : claim_of c.args.seat (claims_of c.self.inside.claims.items) ≡ Some (arc_value c.args.key.now) = ap (λ v. claim_of c.args.seat v.claims) c.self.view_is ∙ c.requires.claim in
    let key : arc_value c.end-key.result ≡ arc_value c.args.key.now = cc (holds, c.end-key.ensures.key) in
    release_reaches g.T.Stands.weighs c.self.inside.limits (fonts_of c.self.inside.resident.fonts.entries) (claims_of c.self.inside.claims.items) (claims_of c.end-key.new.claims.items)
    (calls_of c.self.inside.entries.items) (calls_of c.push_reserved.new.self.items) c.args.seat (arc_value c.args.key.now) c.self.invariant.reached holds c.end-key.ensures.rest
    (noted c.self.inside.entries.items c.push_reserved.new.self.items (record { seat = c.args.seat; key = c.end-key.result; act = act.Released }) (call c.args.seat (arc_value c.args.key.now) Released)
    c.push_reserved.ensures.items (ap (λ k. call c.args.seat k Released) key))

pub returns-clause-stands : goal.returns-clause-stands
returns-clause-stands g c =
    let holds : claim_of c.args.seat (claims_of c.self.inside.claims.items) ≡ Some (arc_value c.args.key.now) = ap (λ v. claim_of c.args.seat v.claims) c.self.view_is ∙ c.requires.claim in
    let key : arc_value c.end-key.result ≡ arc_value c.args.key.now = cc (holds, c.end-key.ensures.key) in
    same_stands g.T.Stands.stands_for g.T.Stands.weighs c.args.self.now _ (ap (λ v. v.limits) c.self.view_is) (release_reaches g.T.Stands.weighs c.self.inside.limits (fonts_of c.self.inside.resident.fonts.entries) (claims_of c.self.inside.claims.items) (claims_of c.end-key.new.claims.items)
    (calls_of c.self.inside.entries.items) (calls_of c.push_reserved.new.self.items) c.args.seat (arc_value c.args.key.now) c.self.invariant.reached holds c.end-key.ensures.rest
    (noted c.self.inside.entries.items c.push_reserved.new.self.items (record { seat = c.args.seat; key = c.end-key.result; act = act.Released }) (call c.args.seat (arc_value c.args.key.now) Released)
    c.push_reserved.ensures.items (ap (λ k. call c.args.seat k Released) key)))
    (λ j. ap (λ v. lookup (key_eq j) v.fonts) c.self.view_is)
