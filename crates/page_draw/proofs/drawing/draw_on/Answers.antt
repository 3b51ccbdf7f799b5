use Rattle.std.proofs.Common.{◌≡◌, List, IfOk, IfErr, Ok, refl, sym, ap, subst, ◌∙◌, arith}
use Rattle.std.proofs.lemmas.Result.{err_from_is_err_and}
use Rattle.pixel_round.specs.Pixels.{Fraction}
use Rattle.page_index.specs.Pages.{IsConversionOf, document_units}
use Rattle.font_decode.specs.Decoding.{IsFontOf}
use Rattle.font_decode.proofs.Trails.{trail_none, trail_more, trail_as}
use Rattle.vf_expand.specs.Course.{course_of}
use Rattle.vf_expand.specs.Expansion.{rest_of}
use Rattle.page_draw.proofs.Lists.{IsDrawnUpTo, made, so_far_look, so_far_none, so_far_same}
use Rattle.page_draw.specs.Drawn.{IsFaultOf, IsWhole}
use Rattle.page_draw.specs.Values.{EndsIn, value_of_drawn}
use Rattle.page_draw.specs.Lacks.{values_of}
use Rattle.vf_expand.specs.declared.lack.Lack.{Lack}
use Rattle.page_draw.proofs.Ends.{broken_at_first, broken_at_look, broken_stop, ended_drawn, ended_stop, rose_on}
use Rattle.page_draw.proofs.Other.{handed_on}
use Rattle.page_draw.proofs.drawing.draw_on.Goals as goal

pub returns-in_err-expander-clause-stop : goal.returns-in_err-expander-clause-stop
returns-in_err-expander-clause-stop g c =
    let p = err_from_is_err_and c.from_residual.result c.from_residual.ensures.1 in
    rw (p.1, p.2) (broken_at_first _ c.args.wanted.index.now c.args.sheet.now c.args.wanted.number c.conv.result _ c.conv.ensures)

pub steps-init : goal.steps-init
steps-init g c =
    let desk = g.D.Desk in
    let conv : c.new-pen.result.conv ≡ c.conv.result = ap (λ p. p.conv) c.new-pen.ensures in
    record {
      conv = subst (λ (x : Fraction). IsConversionOf (document_units c.args.wanted.index.now.res c.args.wanted.index.now.reading) x) (sym conv) c.conv.ensures;
      fits = c.requires.fits;
      room = omega (arith, c.in_ok-expander.ensures.asks);
      library = refl;
      units = refl;
      faults = omega arith;
      trail = trail_none (Unit {0}) (desk.asked c.args.desk.now) (desk.trail c.args.desk.now);
      so_far = subst (λ (ls : List Lack). IsDrawnUpTo (IsFontOf (desk.library c.args.desk.now) (desk.units c.args.desk.now)) c.new-pen.result.conv c.args.sheet.now
          (course_of c.args.sheet.now.tolerant c.args.wanted.index.now.reading c.args.wanted.number) (rest_of c.in_ok-expander.expander) c.new-pen.result.state
          (made c.args.page (values_of ls)) (desk.asked c.args.desk.now) (desk.asked c.args.desk.now)) (sym c.new-lacks.ensures)
          (so_far_none _ c.new-pen.result.conv c.args.sheet.now (course_of c.args.sheet.now.tolerant c.args.wanted.index.now.reading c.args.wanted.number) (rest_of c.in_ok-expander.expander)
          c.new-pen.result.state c.args.page (desk.asked c.args.desk.now) c.in_ok-expander.ensures.page (ap (λ p. p.state) c.new-pen.ensures) c.requires.blank);
    }

pub returns-in_err-step-clause-stop : goal.returns-in_err-step-clause-stop
returns-in_err-step-clause-stop g c =
    let desk = g.D.Desk in
    let i = c.steps.invariant in
    let p = err_from_is_err_and c.from_residual-in_err-step.result c.from_residual-in_err-step.ensures.1 in
    rw (p.1, p.2) (c.in_err-step.ensures.stop (desk.library c.args.desk.now) (desk.units c.args.desk.now) c.args.wanted.index.now c.args.wanted.number _ _ i.conv i.so_far)

pub returns-in_err-look_up-in-Ask-clause-stop : goal.returns-in_err-look_up-in-Ask-clause-stop
returns-in_err-look_up-in-Ask-clause-stop g c =
    let desk = g.D.Desk in
    let i = c.steps.invariant in
    let new = c.draw_flats.new in
    let far = c.in_ok-step.ensures.drawn (desk.library c.args.desk.now) (desk.units c.args.desk.now) _ _ _ i.so_far in
    let step = rw c.in-Ask.is at c.in_ok-step.ensures.next in
    let failed = c.in_err-look_up-in-Ask.ensures in
    let r = c.from_residual-in_err-look_up-in-Ask in
    let p = err_from_is_err_and r.result r.ensures.1 in
    rw (p.1, p.2) (broken_stop _ c.args.wanted.index.now c.args.sheet.now c.args.wanted.number _ _ _ failed.broken
    (broken_at_look _ c.steps.pen.conv c.args.sheet.now c.args.wanted.index.now c.args.wanted.number (rest_of new.expander) new.pen.state (made new.page (values_of new.lacks)) _ _ far i.conv
    _ _ _ _ step.asked failed.refused))

pub steps-preserved : goal.steps-preserved
steps-preserved g c =
    let desk = g.D.Desk in
    let i = c.steps.invariant in
    let new = c.draw_flats.new in
    let far = c.in_ok-step.ensures.drawn (desk.library c.args.desk.now) (desk.units c.args.desk.now) _ _ _ i.so_far in
    let step = rw c.in-Ask.is at c.in_ok-step.ensures.next in
    let conv = c.in_ok-step.ensures.conv in
    let font = c.in_ok-look_up-in-Ask.ensures in
    let answer = font.answered in
    let found = rw (i.library, i.units) at answer.1 in
    record {
      conv = subst (λ (x : Fraction). IsConversionOf (document_units c.args.wanted.index.now.res c.args.wanted.index.now.reading) x) (sym conv) i.conv;
      fits = font.fits;
      room = omega (arith, i.room, font.room, font.asks, c.in_ok-step.ensures.asks);
      library = font.library ∙ i.library;
      units = font.units ∙ i.units;
      faults = omega (arith, i.faults, font.cause.never_falls);
      trail = trail_more (Unit {0}) (desk.asked c.args.desk.now) (desk.asked c.steps.desk) (desk.asked c.look_up.new.desk)
          (desk.trail c.args.desk.now) (desk.trail c.steps.desk) (desk.trail c.look_up.new.desk) i.trail
          (trail_as (Unit {0}) _ (desk.asked c.steps.desk) (desk.asked c.look_up.new.desk) (desk.trail c.steps.desk) (desk.trail c.look_up.new.desk) (λ w. refl) font.trail);
      so_far = subst (λ (x : Fraction). IsDrawnUpTo (IsFontOf (desk.library c.args.desk.now) (desk.units c.args.desk.now)) x c.args.sheet.now
          (course_of c.args.sheet.now.tolerant c.args.wanted.index.now.reading c.args.wanted.number) (rest_of c.look_up.new.expander) new.pen.state (made new.page (values_of new.lacks)) (desk.asked c.args.desk.now) (desk.asked c.look_up.new.desk)) (sym conv)
          (so_far_same _ _ _ _ _ _ _ _ _
          (so_far_look _ c.steps.pen.conv c.args.sheet.now _ (rest_of new.expander) new.pen.state (made new.page (values_of new.lacks)) _ _ far _ _ _ answer.0 _ step.asked found font.asked)
          (rest_of c.look_up.new.expander) answer.2);
    }

pub steps-smaller : goal.steps-smaller
steps-smaller g c =
    let fewer = rw c.in-Ask.is at c.in_ok-step.ensures.steps in
    omega (arith, c.in_ok-look_up-in-Ask.ensures.fewer, fewer)

pub returns-in_default-clause-drawn : goal.returns-in_default-clause-drawn
returns-in_default-clause-drawn g c =
    let desk = g.D.Desk in
    let i = c.steps.invariant in
    let new = c.draw_flats.new in
    let far = c.in_ok-step.ensures.drawn (desk.library c.args.desk.now) (desk.units c.args.desk.now) _ _ _ i.so_far in
    ended_drawn _ c.steps.pen.conv c.args.sheet.now c.args.wanted.index.now c.args.wanted.number (rest_of new.expander) new.pen.state (made new.page (values_of new.lacks)) _ _ far i.conv _
    (subst (λ (x : Fraction). IfOk c.end_page.result (λ done. EndsIn x new.pen.state (made new.page (values_of new.lacks)) (rest_of new.expander) (Ok (value_of_drawn done)))) c.in_ok-step.ensures.conv
    (subst (λ (ls : List Lack). IfOk c.end_page.result (λ done. EndsIn new.pen.conv new.pen.state (made new.page (values_of ls)) (rest_of new.expander) (Ok (value_of_drawn done)))) c.finish-lacks.ensures
    c.end_page.ensures.whole))

pub returns-in_default-clause-stop : goal.returns-in_default-clause-stop
returns-in_default-clause-stop g c =
    let desk = g.D.Desk in
    let i = c.steps.invariant in
    let new = c.draw_flats.new in
    let far = c.in_ok-step.ensures.drawn (desk.library c.args.desk.now) (desk.units c.args.desk.now) _ _ _ i.so_far in
    ended_stop _ c.steps.pen.conv c.args.sheet.now c.args.wanted.index.now c.args.wanted.number (rest_of new.expander) new.pen.state (made new.page (values_of new.lacks)) _ _ far i.conv _
    (subst (λ (x : Fraction). IfErr c.end_page.result (λ why. IsFaultOf why (EndsIn x new.pen.state (made new.page (values_of new.lacks)) (rest_of new.expander)))) c.in_ok-step.ensures.conv
    (subst (λ (ls : List Lack). IfErr c.end_page.result (λ why. IsFaultOf why (EndsIn new.pen.conv new.pen.state (made new.page (values_of ls)) (rest_of new.expander)))) c.finish-lacks.ensures
    c.end_page.ensures.stop))

pub returns-in_err-step-clause-cause : goal.returns-in_err-step-clause-cause
returns-in_err-step-clause-cause g c =
    let p = err_from_is_err_and c.from_residual-in_err-step.result c.from_residual-in_err-step.ensures.1 in
    rw (p.1, p.2) (record { never_falls = c.steps.invariant.faults; rose = λ h. absurd (c.in_err-step.ensures.source (handed_on _ _ h)) })

pub returns-in_err-step-clause-trail : goal.returns-in_err-step-clause-trail
returns-in_err-step-clause-trail g c =
    let desk = g.D.Desk in
    trail_as _ (Unit {0}) (desk.asked c.args.desk.now) (desk.asked c.steps.desk) (desk.trail c.args.desk.now) (desk.trail c.steps.desk) (λ w. tt) c.steps.invariant.trail

pub returns-in_err-expander-clause-trail : goal.returns-in_err-expander-clause-trail
returns-in_err-expander-clause-trail g c = trail_none _ (g.D.Desk.asked c.args.desk.now) (g.D.Desk.trail c.args.desk.now)

pub returns-in_default-clause-trail : goal.returns-in_default-clause-trail
returns-in_default-clause-trail g c =
    let desk = g.D.Desk in
    trail_as _ (Unit {0}) (desk.asked c.args.desk.now) (desk.asked c.steps.desk) (desk.trail c.args.desk.now) (desk.trail c.steps.desk) (λ w. tt) c.steps.invariant.trail

pub returns-in_err-look_up-in-Ask-clause-trail : goal.returns-in_err-look_up-in-Ask-clause-trail
returns-in_err-look_up-in-Ask-clause-trail g c =
    let desk = g.D.Desk in
    let failed = c.in_err-look_up-in-Ask.ensures in
    let r = c.from_residual-in_err-look_up-in-Ask in
    let p = err_from_is_err_and r.result r.ensures.1 in
    let own : IsWhole c.from_residual-in_err-look_up-in-Ask.result → ⊥ = rw (p.1, p.2) failed.broken in
    trail_more _ (desk.asked c.args.desk.now) (desk.asked c.steps.desk) (desk.asked c.look_up.new.desk)
    (desk.trail c.args.desk.now) (desk.trail c.steps.desk) (desk.trail c.look_up.new.desk) c.steps.invariant.trail
    (trail_as _ _ (desk.asked c.steps.desk) (desk.asked c.look_up.new.desk) (desk.trail c.steps.desk) (desk.trail c.look_up.new.desk) (λ w. absurd (own w)) failed.trail)

pub returns-in_err-look_up-in-Ask-clause-cause : goal.returns-in_err-look_up-in-Ask-clause-cause
returns-in_err-look_up-in-Ask-clause-cause g c =
    let desk = g.D.Desk in
    let i = c.steps.invariant in
    let failed = c.in_err-look_up-in-Ask.ensures in
    let r = c.from_residual-in_err-look_up-in-Ask in
    let p = err_from_is_err_and r.result r.ensures.1 in
    rw (p.1, p.2) (record {
      never_falls = omega (arith, i.faults, failed.cause.never_falls);
      rose = λ h. rose_on (desk.faults c.args.desk.now) (desk.faults c.steps.desk) (desk.faults c.look_up.new.desk) i.faults (failed.cause.rose (handed_on _ _ h));
    })
