use Rattle.std.proofs.Common.{◌≡◌, false, sym, ◌∙◌}
use Rattle.std.specs.Option.{is_some}
use Rattle.std.specs.Arc.{arc_value}
use Rattle.std.specs.Map.{lookup}
use Rattle.cache_core.specs.Views.{passes}
use Rattle.cache_core.proofs.NotedHits.{all_stay, not_resident, first_missing}
use Rattle.cache_core.proofs.hits.next_found.Goals as goal

pub returns-then-not-make_newest-clause-stops : goal.returns-then-not-make_newest-clause-stops
returns-then-not-make_newest-clause-stops g c =
    let k = c.in_ok-front.field-0.now in
    let out : is_some (lookup (passes (arc_value k)) c.args.fonts.now.entries) ≡ false = sym c.make_newest.ensures.found ∙ c.if-not-make_newest.true in
    first_missing c.args.keys.now.items k _ c.in_ok-front.ensures.lookup
    (not_resident g.T.Stands.weighs (arc_value k) c.args.fonts.now.entries c.make_newest.new.fonts.entries c.make_newest.ensures.moved out)

pub returns-then-not-make_newest-clause-same : goal.returns-then-not-make_newest-clause-same
returns-then-not-make_newest-clause-same g c =
    let k = c.in_ok-front.field-0.now in
    let out : is_some (lookup (passes (arc_value k)) c.args.fonts.now.entries) ≡ false = sym c.make_newest.ensures.found ∙ c.if-not-make_newest.true in
    (all_stay g.T.Stands.weighs (arc_value k) c.args.fonts.now.entries c.make_newest.new.fonts.entries c.make_newest.ensures.moved out, λ i. c.args.keys.now.items)
