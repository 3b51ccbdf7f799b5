use Rattle.std.proofs.Common.{ℕ, ◌+◌, ◌∷◌, [], ◌<◌, List, length, get_or, set, rules, subst, sym, arith, length-append}
use Rattle.page_counter.specs.declared.view.SeatClaims.{SeatClaims}
use Rattle.page_workers.specs.Claims.{GaveSeat}
use Rattle.page_workers.proofs.Lists.{each_pair_step, left_step, here}
use Rattle.page_workers.proofs.claiming.join_at_counter.Goals as goal

pub loop-k-preserved : goal.loop-k-preserved
loop-k-preserved g c =
    let i : ℕ = c.loop-k.k in
    let inv = c.loop-k.invariant in
    let ws = c.loop-k.workers in
    let xs = c.args.workers.now in
    let inside : i < length ws = search rules in
    let v = c.join_one.new.worker in
    let ts = c.loop-k.first.view.joined in
    let taken = c.join_one.ensures.joined.0 in
    let grew = c.join_one.ensures.joined.1 in
    let longer = length-append ts (taken ∷ []) in
    record {
      counter = search rules;
      number = search rules;
      claims = search rules;
      made = search rules;
      joined = rw grew (omega (arith, longer, inv.joined));
      gave = subst (λ (l : List SeatClaims). (k : ℕ) (d : _) (e : SeatClaims) → k < i + 1 → GaveSeat (get_or l k e) (get_or xs k d) (get_or (set ws i v) k d)) (sym grew)
          (each_pair_step xs ws ts i v taken inside inv.joined (λ t a b. GaveSeat t a b)
          (λ d. subst (λ a. GaveSeat taken a v) (here xs ws i v inside inv.left c.index-workers-k.result d) c.join_one.ensures.joined.2) inv.gave);
      left = left_step xs ws i v inside inv.left;
    }
