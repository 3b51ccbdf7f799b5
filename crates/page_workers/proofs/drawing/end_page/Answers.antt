use Rattle.std.proofs.Common.{◌≡◌, inr, None, Result, Err, map, refl, sym, ap, subst, ◌∙◌, rules}
use Rattle.std.specs.Prelude.{IsOk}
use Rattle.std.specs.Arc.{arc_value}
use Rattle.std.proofs.lemmas.Result.{err_from_is_err_and}
use Rattle.page_draw.specs.Drawn.{IsWhole}
use Rattle.page_draw.specs.declared.drawn.Drawn.{Drawn}
use Rattle.page_draw.specs.declared.stop.PageStop.{PageStop}
use Rattle.page_workers.proofs.Noted.{draws_to, not_own}
use Rattle.page_workers.proofs.drawing.end_page.Goals as goal

pub returns-in-Some-clause-last : goal.returns-in-Some-clause-last
returns-in-Some-clause-last g c = inr (c.in-Some.stop, map arc_value c.args.pending.items, ap Err c.from.ensures, refl)

pub returns-in_err-settle-clause-last : goal.returns-in_err-settle-clause-last
returns-in_err-settle-clause-last g c =
    let p = err_from_is_err_and c.from_residual.result c.from_residual.ensures.1 in
    inr (c.in_err-settle.field-0.0, map arc_value c.settle.new.keys.items, p.1 ∙ ap Err p.2, sym c.settle.ensures.asked)

pub returns-in_err-settle-clause-trail : goal.returns-in_err-settle-clause-trail
returns-in_err-settle-clause-trail g c =
    let p = err_from_is_err_and c.from_residual.result c.from_residual.ensures.1 in
    let going : c.args.stop ≡ None = search rules in
    draws_to _ _ _ _ _ _ _ _ _ c.args.worker.now c.settle.new.worker _ _ c.requires.draws going c.settle.ensures.trail
    (λ whole. absurd (not_own c.in_err-settle.field-0.0 (subst (λ (r : Result Drawn PageStop). IsWhole r) (p.1 ∙ ap Err p.2) whole)))

pub returns-clause-trail : goal.returns-clause-trail
returns-clause-trail g c =
    let going : c.args.stop ≡ None = search rules in
    let noted : IsOk c.settle.result = search rules in
    draws_to _ _ _ _ _ _ _ _ _ c.args.worker.now c.settle.new.worker _ _ c.requires.draws going c.settle.ensures.trail (λ whole. noted)
