use Rattle.std.proofs.Common.{ℕ, ◌+◌, ◌<◌, length, get_or, rules, subst}
use Rattle.page_workers.specs.Seating.{WasSeated}
use Rattle.page_workers.proofs.Lists.{each_step, left_step, here}
use Rattle.page_workers.proofs.seating.seat_all.Goals as goal

pub loop-k-preserved : goal.loop-k-preserved
loop-k-preserved g c =
    let i : ℕ = c.loop-k.k in
    let inv = c.loop-k.invariant in
    let ws = c.loop-k.workers in
    let xs = c.args.workers.now in
    let inside : i < length ws = search rules in
    let v = c.seat_one.new.worker in
    let seated : WasSeated c.args.cache.now c.args.first.now.view.part (i + 1) (get_or ws i c.index-workers-k.result) v =
    subst (λ (n : ℕ). WasSeated c.args.cache.now c.args.first.now.view.part n (get_or ws i c.index-workers-k.result) v) inv.made
    (subst (λ p. WasSeated c.args.cache.now p c.loop-k.first.view.made (get_or ws i c.index-workers-k.result) v) inv.part c.seat_one.ensures.seated) in
    record {
      lock = search rules;
      number = search rules;
      idle = search rules;
      part = search rules;
      seen = search rules;
      joined = search rules;
      made = search rules;
      seated = each_step xs ws i v inside (λ k a b. WasSeated c.args.cache.now c.args.first.now.view.part (k + 1) a b)
          (λ d. subst (λ a. WasSeated c.args.cache.now c.args.first.now.view.part (i + 1) a v) (here xs ws i v inside inv.left c.index-workers-k.result d) seated) inv.seated;
      left = left_step xs ws i v inside inv.left;
    }
