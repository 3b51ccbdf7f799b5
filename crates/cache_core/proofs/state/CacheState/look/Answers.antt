use Rattle.std.proofs.Common.{IfOk, ap, refl, sym, ◌∙◌, subst}
use Rattle.std.specs.Arc.{arc_value}
use Rattle.cache_core.specs.Views.{fonts_of, claims_of}
use Rattle.cache_core.specs.States.{Cache, machine, machine_of, call, answered, Takes}
use Rattle.cache_core.proofs.Changes.{at_limits, call_reaches, look_stands}
use Rattle.cache_core.proofs.state.CacheState.look.Goals as goal

pub invariant_of-self : goal.invariant_of-self
invariant_of-self g c = record {
  reached = call_reaches g.T.Stands.weighs c.self.inside.limits c.self.inside.resident.fonts c.answer.new.resident c.self.inside.claims.items c.answer.new.claims.items c.self.inside.entries.items c.answer.new.entries.items (λ r. call c.args.seat (arc_value c.args.key.now) (answered r)) c.answer.result c.self.invariant.reached
      (at_limits _ c.answer.result c.answer.ensures.taken c.self.inside.limits) c.answer.ensures.noted c.answer.ensures.same;
  some_font = c.self.invariant.some_font;
  few_fonts = c.self.invariant.few_fonts;
  one_more = c.answer.ensures.capacity ∙ c.self.invariant.one_more;
  total = c.self.invariant.total ∙ sym c.answer.ensures.total;
  can_end = c.answer.ensures.can_end;
}

pub returns-clause-reached : goal.returns-clause-reached
returns-clause-reached g c =
    call_reaches g.T.Stands.weighs c.self.inside.limits c.self.inside.resident.fonts c.answer.new.resident c.self.inside.claims.items c.answer.new.claims.items c.self.inside.entries.items c.answer.new.entries.items (λ r. call c.args.seat (arc_value c.args.key.now) (answered r)) c.answer.result c.self.invariant.reached
    (at_limits _ c.answer.result c.answer.ensures.taken c.self.inside.limits) c.answer.ensures.noted c.answer.ensures.same

pub returns-clause-taken : goal.returns-clause-taken
returns-clause-taken g c =
    subst (λ (v : Cache g.row.T.Denot). IfOk c.answer.result (λ reply. Takes v.limits (machine g.T.Stands.weighs v) (machine_of g.T.Stands.weighs (fonts_of c.answer.new.resident.entries) (claims_of c.answer.new.claims.items)) (call c.args.seat (arc_value c.args.key.now) (answered reply)))) c.self.view_is
    (at_limits _ c.answer.result c.answer.ensures.taken c.self.inside.limits)

pub returns-clause-stands : goal.returns-clause-stands
returns-clause-stands g c =
    look_stands g.T.Stands.weighs c.self.inside.limits c.self.inside.resident.fonts c.answer.new.resident c.self.inside.claims.items c.answer.new.claims.items c.self.inside.entries.items c.answer.new.entries.items
    g.T.Stands.stands_for c.args.self.now _ c.answer.result (ap (λ v. v.limits) c.self.view_is) (ap (λ v. v.fonts) c.self.view_is) refl
    (call_reaches g.T.Stands.weighs c.self.inside.limits c.self.inside.resident.fonts c.answer.new.resident c.self.inside.claims.items c.answer.new.claims.items c.self.inside.entries.items c.answer.new.entries.items (λ r. call c.args.seat (arc_value c.args.key.now) (answered r)) c.answer.result c.self.invariant.reached
    (at_limits _ c.answer.result c.answer.ensures.taken c.self.inside.limits) c.answer.ensures.noted c.answer.ensures.same)
    c.answer.ensures.fonts c.answer.ensures.same
