use Rattle.std.proofs.Common.{rules, ap, ◌∙◌, sym, subst}
use Rattle.cache_core.specs.States.{Cache, StateStands}
use Rattle.font_cache.proofs.cache.FontCache.make.Goals as goal

pub make-requires : goal.make-requires
make-requires g c κs within =
    let e = c.in_ok-state.ensures in
    let owned = c.in_ok-owner.ensures.ok in (
      search rules fits 100000 depth 60,
      (
        ap (λ (s : Cache g.row.T.Denot). s.turns) owned ∙ e.no_call.1,
        (
          ap (λ (s : Cache g.row.T.Denot). s.history) owned ∙ e.no_call.0,
          subst (λ (s : Cache g.row.T.Denot). StateStands g.T.Stands.stands_for g.T.Stands.weighs s g.part) (sym owned) (e.stands g.part c.requires.1.1.1.0 c.requires.1.1.1.1),
        ),
      ),
    )
