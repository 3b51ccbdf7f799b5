use Rattle.std.proofs.Common.{◌<◌, ◌≤◌, length, rules, subst, arith}
use Rattle.page_workers.specs.Handing.{Looked}
use Rattle.page_workers.proofs.Lists.{each_step, left_step, here}
use Rattle.page_workers.proofs.taking.look_at_all.Goals as goal

pub loop-k-preserved : goal.loop-k-preserved
loop-k-preserved c =
    let i = c.loop-k.k in
    let inv = c.loop-k.invariant in
    let ws = c.loop-k.inlets in
    let xs = c.args.inlets.now in
    let inside : i < length ws = search rules in
    let v = c.look.new.inlet in
    record {
      looked = each_step xs ws i v inside (λ _ a b. Looked a b)
          (λ d. subst (λ a. Looked a v) (here xs ws i v inside inv.left c.index-inlets-k.result d) c.look.ensures) inv.looked;
      left = left_step xs ws i v inside inv.left;
    }

pub returns : goal.returns
returns c =
    let all : length c.args.inlets.now ≤ c.loop-k.k = search rules in
    λ k d lt. c.loop-k.invariant.looked k d (omega (arith, lt, all))
