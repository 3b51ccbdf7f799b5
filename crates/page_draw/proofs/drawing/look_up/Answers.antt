use Rattle.std.proofs.lemmas.Result.{err_from_is_err_and}
use Rattle.std.specs.Arc.{arc_value}
use Rattle.page_draw.proofs.Other.{broken_off, desk_failed}
use Rattle.page_draw.proofs.drawing.look_up.Goals as goal

pub returns-clause-answered : goal.returns-clause-answered
returns-clause-answered g c = (arc_value c.in_ok-font.font, c.in_ok-font.ensures.found, c.answer.ensures.rest)

pub returns-in_err-font-clause-broken : goal.returns-in_err-font-clause-broken
returns-in_err-font-clause-broken g c =
    let p = err_from_is_err_and c.from_residual.result c.from_residual.ensures.1 in
    rw (p.1, p.2) (broken_off _)

pub returns-in_err-font-clause-cause : goal.returns-in_err-font-clause-cause
returns-in_err-font-clause-cause g c =
    let p = err_from_is_err_and c.from_residual.result c.from_residual.ensures.1 in
    rw (p.1, p.2) (desk_failed _ _ _ c.in_err-font.ensures.cause)
