use Rattle.cache_core.proofs.ClaimsFit.{claims_always_fit}
use Rattle.cache_core.proofs.FontsFit.{fonts_always_fit, fills_are_one}
use Rattle.cache_core.proofs.Looks.{looks_are_answered}
use Rattle.cache_core.proofs.laws.histories.Goals as goal

pub returns-clause-claims_fit : goal.returns-clause-claims_fit
returns-clause-claims_fit c = claims_always_fit

pub returns-clause-looks : goal.returns-clause-looks
returns-clause-looks c = looks_are_answered

pub returns-clause-fonts_fit : goal.returns-clause-fonts_fit
returns-clause-fonts_fit c = fonts_always_fit

pub returns-clause-fills : goal.returns-clause-fills
returns-clause-fills c = fills_are_one
