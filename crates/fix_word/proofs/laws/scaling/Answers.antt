use Rattle.fix_word.proofs.Nearest.{half_up_is_nearest}
use Rattle.fix_word.proofs.Scaling.{nested_divisions_scale, shift_is_least}
use Rattle.fix_word.proofs.laws.scaling.Goals as goal

pub returns-clause-shift : goal.returns-clause-shift
returns-clause-shift c = shift_is_least

pub returns-clause-nested_divisions : goal.returns-clause-nested_divisions
returns-clause-nested_divisions c = nested_divisions_scale

pub returns-clause-half_up : goal.returns-clause-half_up
returns-clause-half_up c = half_up_is_nearest
