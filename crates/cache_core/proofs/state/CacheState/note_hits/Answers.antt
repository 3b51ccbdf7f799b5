use Rattle.std.proofs.Common.{◌≡◌, None, map, OnOk, ap, refl, sym, ◌∙◌, subst, arith}
use Rattle.std.specs.Arc.{arc_value}
use Rattle.cache_core.specs.Hits.{NotedHits}
use Rattle.cache_core.specs.Machine.{claim_of}
use Rattle.cache_core.specs.Views.{calls_of, claims_of, fonts_of}
use Rattle.cache_core.specs.States.{Cache, machine, machine_of}
use Rattle.cache_core.proofs.NotedHits.{hits_at, hits_reach, hits_stand}
use Rattle.cache_core.proofs.state.CacheState.note_hits.Goals as goal

pub invariant_of-self : goal.invariant_of-self
invariant_of-self g c =
    let free : claim_of c.args.seat (claims_of c.self.inside.claims.items) ≡ None = ap (λ v. claim_of c.args.seat v.claims) c.self.view_is ∙ c.requires.free in
    record {
      reached = hits_reach g.T.Stands.weighs c.args.seat c.self.inside.resident.fonts c.note_all.new.fonts c.self.inside.entries.items c.note_all.new.entries.items (map arc_value c.args.keys.now.items) (map arc_value c.note_all.new.keys.items)
          (c.note_all.new.keys ≡ c.args.keys.now) c.note_all.result c.note_all.ensures.noted c.note_all.ensures.same c.self.inside.limits (claims_of c.self.inside.claims.items) free c.self.invariant.reached;
      some_font = c.self.invariant.some_font;
      few_fonts = c.self.invariant.few_fonts;
      one_more = c.note_all.ensures.capacity ∙ c.self.invariant.one_more;
      total = c.self.invariant.total ∙ sym c.note_all.ensures.total;
      can_end = let len = c.len.ensures in let room = c.note_all.ensures.can_end in omega arith;
    }

pub returns-clause-reached : goal.returns-clause-reached
returns-clause-reached g c =
    let free : claim_of c.args.seat (claims_of c.self.inside.claims.items) ≡ None = ap (λ v. claim_of c.args.seat v.claims) c.self.view_is ∙ c.requires.free in
    hits_reach g.T.Stands.weighs c.args.seat c.self.inside.resident.fonts c.note_all.new.fonts c.self.inside.entries.items c.note_all.new.entries.items (map arc_value c.args.keys.now.items) (map arc_value c.note_all.new.keys.items)
    (c.note_all.new.keys ≡ c.args.keys.now) c.note_all.result c.note_all.ensures.noted c.note_all.ensures.same c.self.inside.limits (claims_of c.self.inside.claims.items) free c.self.invariant.reached

pub returns-clause-noted : goal.returns-clause-noted
returns-clause-noted g c =
    let free : claim_of c.args.seat (claims_of c.self.inside.claims.items) ≡ None = ap (λ v. claim_of c.args.seat v.claims) c.self.view_is ∙ c.requires.free in
    subst (λ (v : Cache g.row.T.Denot). OnOk c.note_all.result (NotedHits v.limits c.args.seat (machine g.T.Stands.weighs v) (machine_of g.T.Stands.weighs (fonts_of c.note_all.new.fonts.entries) (claims_of c.self.inside.claims.items))
    v.history (calls_of c.note_all.new.entries.items) (map arc_value c.args.keys.now.items) (map arc_value c.note_all.new.keys.items))) c.self.view_is
    (hits_at g.T.Stands.weighs c.args.seat c.self.inside.resident.fonts c.note_all.new.fonts c.self.inside.entries.items c.note_all.new.entries.items (map arc_value c.args.keys.now.items) (map arc_value c.note_all.new.keys.items)
    (c.note_all.new.keys ≡ c.args.keys.now) c.note_all.result c.note_all.ensures.noted c.note_all.ensures.same c.self.inside.limits (claims_of c.self.inside.claims.items) free)

pub returns-clause-stands : goal.returns-clause-stands
returns-clause-stands g c =
    let free : claim_of c.args.seat (claims_of c.self.inside.claims.items) ≡ None = ap (λ v. claim_of c.args.seat v.claims) c.self.view_is ∙ c.requires.free in
    hits_stand g.T.Stands.weighs c.args.seat c.self.inside.resident.fonts c.note_all.new.fonts c.self.inside.entries.items c.note_all.new.entries.items (map arc_value c.args.keys.now.items) (map arc_value c.note_all.new.keys.items)
    (c.note_all.new.keys ≡ c.args.keys.now) c.note_all.result c.note_all.ensures.noted c.note_all.ensures.same
    g.T.Stands.stands_for c.args.self.now _ (ap (λ v. v.limits) c.self.view_is) (ap (λ v. v.fonts) c.self.view_is) refl
    (hits_reach g.T.Stands.weighs c.args.seat c.self.inside.resident.fonts c.note_all.new.fonts c.self.inside.entries.items c.note_all.new.entries.items (map arc_value c.args.keys.now.items) (map arc_value c.note_all.new.keys.items)
    (c.note_all.new.keys ≡ c.args.keys.now) c.note_all.result c.note_all.ensures.noted c.note_all.ensures.same c.self.inside.limits (claims_of c.self.inside.claims.items) free c.self.invariant.reached)
    c.note_all.ensures.fonts
