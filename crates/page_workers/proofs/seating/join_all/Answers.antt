use Rattle.std.proofs.Common.{◌≡◌, ℕ, ◌+◌, ◌++◌, ◌∷◌, [], ◌<◌, length, get_or, rules, subst, ap, ◌∙◌, arith, List}
use Rattle.page_workers.specs.Seating.{HasLeft}
use Rattle.page_workers.proofs.Lists.{each_step, left_step, here}
use Rattle.page_workers.proofs.Numbers.{numbers_more, still_left}
use Rattle.page_workers.proofs.seating.join_all.Goals as goal

pub loop-k-preserved : goal.loop-k-preserved
loop-k-preserved g c =
    let i : ℕ = c.loop-k.k in
    let inv = c.loop-k.invariant in
    let ws = c.loop-k.workers in
    let xs = c.args.workers.now in
    let inside : i < length ws = search rules in
    let v = c.join_one.new.worker in
    let seen = c.join_one.new.first.view.seen in
    let number : c.loop-k.number + 1 ≡ i + 1 = omega (arith, inv.count) in
    let left : HasLeft seen (i + 1) (get_or ws i c.index-workers-k.result) v =
    subst (λ (n : ℕ). HasLeft seen n (get_or ws i c.index-workers-k.result) v) number c.join_one.ensures.left in
    record {
      lock = search rules;
      count = number;
      number = search rules;
      idle = search rules;
      part = search rules;
      made = search rules;
      mine = c.join_one.ensures.mine ∙ inv.mine;
      joined = c.join_one.ensures.joined ∙ ap (λ (l : List ℕ). l ++ (c.loop-k.number + 1) ∷ []) inv.joined ∙ numbers_more i (c.loop-k.number + 1) number;
      gone = each_step xs ws i v inside (λ k a b. HasLeft seen (k + 1) a b)
          (λ d. subst (λ a. HasLeft seen (i + 1) a v) (here xs ws i v inside inv.left c.index-workers-k.result d) left)
          (λ k d lt. still_left c.loop-k.first.view.seen seen i k c.loop-k.first.view.joined _ _ inv.joined lt c.join_one.ensures.begins c.join_one.ensures.before (inv.gone k d lt));
      left = left_step xs ws i v inside inv.left;
    }
