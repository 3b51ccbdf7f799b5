use Rattle.pixel_round.proofs.Conversion.{ceil_is_least, converted_are_bounded, sides_have_dots}
use Rattle.pixel_round.proofs.Equal.{equal_fractions_convert_alike}
use Rattle.pixel_round.proofs.OneRound.{only_one_is_round}
use Rattle.pixel_round.proofs.laws.conversions.Goals as goal

pub returns-clause-least : goal.returns-clause-least
returns-clause-least c = ceil_is_least

pub returns-clause-bounded : goal.returns-clause-bounded
returns-clause-bounded c = converted_are_bounded

pub returns-clause-only_one : goal.returns-clause-only_one
returns-clause-only_one c = only_one_is_round

pub returns-clause-has_a_dot : goal.returns-clause-has_a_dot
returns-clause-has_a_dot c = sides_have_dots

pub returns-clause-alike : goal.returns-clause-alike
returns-clause-alike c = equal_fractions_convert_alike
