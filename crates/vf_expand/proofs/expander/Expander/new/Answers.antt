use Rattle.std.proofs.Common.{Bool, ap, subst, sym, ◌∙◌}
use Rattle.vf_expand.specs.Course as course
use Rattle.vf_expand.specs.Course.{course_of}
use Rattle.vf_expand.specs.Expansion.{HasNoLack}
use Rattle.vf_expand.proofs.Heads.{new_left, new_place, strict_page}
use Rattle.vf_expand.proofs.expander.Expander.new.Goals as goal

pub returns-clause-page : goal.returns-clause-page
returns-clause-page c =
    rw (c.at_first.ensures, c.new.ensures)
    (new_left c.args.tolerant c.args.index.now.reading c.args.i c.page-page.result.at c.page-page.result.bytes.now c.page-page.ensures.commands c.page-page.ensures.ends)

pub returns-clause-place : goal.returns-clause-place
returns-clause-place c =
    rw (c.at_first.ensures, c.new.ensures)
    (new_place c.args.tolerant c.args.index.now.reading 16777216 c.page-page.result.at course.NoFont c.page-page.result.bytes.now c.page-page.ensures.readable)

pub returns-clause-strict : goal.returns-clause-strict
returns-clause-strict c = λ strict.
    let reading = c.args.index.now.reading in
    let page = new_left c.args.tolerant reading c.args.i c.page-page.result.at c.page-page.result.bytes.now c.page-page.ensures.commands c.page-page.ensures.ends in
    let own = page ∙ ap (λ (t : Bool). course_of t reading c.args.i) strict in
    rw (c.at_first.ensures, c.new.ensures) (subst HasNoLack (sym own) (strict_page reading c.args.i))
