use Rattle.std.proofs.Common.{ℕ, ◌<◌, length, rules, subst}
use Rattle.page_workers.specs.Claims.{GotSeat}
use Rattle.page_workers.proofs.Lists.{each_step, left_step, here}
use Rattle.page_workers.proofs.claiming.seat_at_counter.Goals as goal

pub loop-k-preserved : goal.loop-k-preserved
loop-k-preserved g c =
    let i : ℕ = c.loop-k.k in
    let inv = c.loop-k.invariant in
    let ws = c.loop-k.workers in
    let xs = c.args.workers.now in
    let inside : i < length ws = search rules in
    let v = c.seat_one.new.worker in
    record {
      counter = search rules;
      number = search rules;
      claims = search rules;
      joined = search rules;
      made = search rules;
      got = each_step xs ws i v inside (λ _ a b. GotSeat c.args.counter.now a b)
          (λ d. subst (λ a. GotSeat c.args.counter.now a v) (here xs ws i v inside inv.left c.index-workers-k.result d) c.seat_one.ensures.got) inv.got;
      left = left_step xs ws i v inside inv.left;
    }
