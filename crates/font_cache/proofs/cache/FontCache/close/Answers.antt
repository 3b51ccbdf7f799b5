use Rattle.std.proofs.Common.{refl, sym, subst}
use Rattle.cache_core.specs.Laws.{FewClaims}
use Rattle.font_cache.proofs.Turns.{is_legal}
use Rattle.font_cache.proofs.cache.FontCache.close.Goals as goal

pub returns-clause-few_claims : goal.returns-clause-few_claims
returns-clause-few_claims g c =
    subst FewClaims (sym c.finish.ensures.history) (c.histories.ensures.few_claims c.into_inner.result.limits c.into_inner.result.history (is_legal g.T.Stands.weighs c.into_inner.result c.into_inner.result.limits c.finish.ensures.reached refl))
