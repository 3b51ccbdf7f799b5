use Rattle.std.proofs.Common.{◌≡◌, ◌<◌, [], length, get_or, refl, subst, sym, rules, arith}
use Rattle.page_workers.proofs.Lists.{each_step, here, left_step}
use Rattle.dvi_run.specs.Sampled.{TookResults}
use Rattle.dvi_run.proofs.own_workers.move_results.Goals as goal

pub loop-k-init : goal.loop-k-init
loop-k-init g c = record { handed = λ k e d lt. absurd (omega arith); mine = λ k e le. refl; left = λ k d le. refl }

pub loop-k-preserved : goal.loop-k-preserved
loop-k-preserved g c =
    let i = c.loop-k.k in
    let inv = c.loop-k.invariant in
    let first = c.args.own.now in
    let own = c.loop-k.own in
    let xs = c.args.workers.now in
    let ws = c.loop-k.workers in
    let one = c.move_results_of.new.own in
    let v = c.move_results_of.new.worker in
    let within : i < length own = search rules in
    let inside : i < length ws = search rules in
    record {
      handed = λ k e d lt.
          each_step xs ws i v inside (λ k a b. TookResults (get_or first k e) a b)
          (λ d. subst (λ a. TookResults (get_or first i e) a v) (here xs ws i v inside inv.left c.index-workers-k.result d)
          (subst (λ a. TookResults a (get_or ws i c.index-workers-k.result) v) (here first own i one within inv.mine c.index-own-k.result e) c.move_results_of.ensures))
          (λ k d lt. inv.handed k e d lt) k d lt;
      mine = left_step first own i one within inv.mine;
      left = left_step xs ws i v inside inv.left;
    }

pub move_results_of-requires : goal.move_results_of-requires
move_results_of-requires g c =
    let i = c.loop-k.k in
    let xs = c.args.workers.now in
    let ws = c.loop-k.workers in
    let d = c.index-workers-k.result in
    let below : i < length c.args.own.now = search rules in
    let inside : i < length ws = search rules in
    record { unused = subst (λ w. w.pages.items ≡ []) (sym (here xs ws i d inside c.loop-k.invariant.left d d)) (c.requires.unused i d below) }
