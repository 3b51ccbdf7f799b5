use Rattle.std.proofs.Common.{sym, subst, ap, ◌∙◌, arith}
use Rattle.std.proofs.lemmas.Grind.{common_steps}
use Rattle.page_workers.specs.Claims.{MayTakePart}
use Rattle.page_workers.specs.Handing.{HasOutlet}
use Rattle.page_workers.proofs.handing.hand_parts.Goals as goal

pub for_each_mut-requires-clause-accepts : goal.for_each_mut-requires-clause-accepts
for_each_mut-requires-clause-accepts g c κs within = λ i p lt is. (
  c.requires.ready.inside,
  subst (λ w. MayTakePart g.F.FontSource.library c.args.job.now.bench.now c.args.round.now.counter c.args.round.now.pages.count w) (sym is) (c.requires.ready.ready i p.now lt),
  subst (λ w. HasOutlet c.args.round.now.pages.count w) (sym is) (c.requires.ready.outlet i p.now lt),
  λ o e. c.requires.ready.unsent i p.now o lt (ap (λ w. w.outlet) (sym is) ∙ e),
)

pub returns : goal.returns
returns g c = λ k d lt. grind (arith, common_steps, c.for_each_mut.ensures k d lt)
