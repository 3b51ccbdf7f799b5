use Rattle.std.proofs.Common.{ℕ, ◌<◌, ◌≤◌, length, rules, subst}
use Rattle.page_workers.specs.SparePages.{SameButSparePages, spare_pages_kept}
use Rattle.page_workers.proofs.Lists.{each_step, left_step, here}
use Rattle.page_workers.proofs.spare_pages.trim_spare_pages.Goals as goal

pub loop-k-preserved : goal.loop-k-preserved
loop-k-preserved g c =
    let i : ℕ = c.loop-k.k in
    let inv = c.loop-k.invariant in
    let ws = c.loop-k.workers in
    let xs = c.args.workers.now in
    let inside : i < length ws = search rules in
    let v = c.keep_spare_pages.new.self in
    let most : length v.spare_pages.items ≤ spare_pages_kept (length xs) = subst (λ (n : ℕ). length v.spare_pages.items ≤ n) c.share_kept-most.ensures c.keep_spare_pages.ensures.most in
    record {
      same = each_step xs ws i v inside (λ _ a b. SameButSparePages a b)
          (λ d. subst (λ a. SameButSparePages a v) (here xs ws i v inside inv.left c.index-workers-k.result d) c.keep_spare_pages.ensures.same) inv.same;
      kept = each_step xs ws i v inside (λ _ a b. length b.spare_pages.items ≤ spare_pages_kept (length xs)) (λ d. most) inv.kept;
      left = left_step xs ws i v inside inv.left;
    }
