use Rattle.std.proofs.Common.{◌≡◌, ◌+◌, ◌<◌, ◌≤◌, ◌∷◌, [], ◌++◌, ℕ, List, Some, length, get_or, set, rules, subst, sym, ap, arith}
use Rattle.page_workers.specs.declared.rings.Inlet.{Inlet}
use Rattle.page_workers.specs.Handing.{AreNewlyLinked, WithOutlet}
use Rattle.page_workers.proofs.Lists.{each_pair_step, each_step, left_step, here}
use Rattle.page_workers.proofs.Sending.{first_got}
use Rattle.page_workers.proofs.rings.open_rings.Goals as goal

pub returns-in_err-outlet-clause-same : goal.returns-in_err-outlet-clause-same
returns-in_err-outlet-clause-same g c = first_got c.args.workers.now c.loop-k.workers c.loop-k.k c.loop-k.invariant.same c.loop-k.invariant.left

pub returns-in_err-push-clause-same : goal.returns-in_err-push-clause-same
returns-in_err-push-clause-same g c = first_got c.args.workers.now c.loop-k.workers c.loop-k.k c.loop-k.invariant.same c.loop-k.invariant.left

pub returns-clause-same : goal.returns-clause-same
returns-clause-same g c = first_got c.args.workers.now c.loop-k.workers c.loop-k.k c.loop-k.invariant.same c.loop-k.invariant.left

pub returns-clause-linked : goal.returns-clause-linked
returns-clause-linked g c =
    let all : length c.args.workers.now ≤ c.loop-k.k = search rules in
    λ k e d lt. c.loop-k.invariant.linked k d e (omega (arith, lt, all))

pub loop-k-preserved : goal.loop-k-preserved
loop-k-preserved g c =
    let i : ℕ = c.loop-k.k in
    let inv = c.loop-k.invariant in
    let ws = c.loop-k.workers in
    let xs = c.args.workers.now in
    let inside : i < length ws = search rules in
    let v = c.link.new.worker in
    let ts = c.loop-k.inlets.items in
    let t = c.in_ok-outlet.inlet in
    let ends = c.in_ok-outlet.ensures in
    let linked : AreNewlyLinked c.args.round.now.pages.count v t = record { outlet = c.in_ok-outlet.outlet; is = ap (λ w. w.outlet) c.link.ensures; pair = ends.0; unsent = ends.1; unreceived = ends.2; room = ends.3 } in
    let more : c.push.new.self.items ≡ ts ++ t ∷ [] = search rules in
    record {
      long = search rules;
      same = each_step xs ws i v inside (λ _ a b. WithOutlet a b)
          (λ d. subst (λ a. WithOutlet a v) (here xs ws i v inside inv.left c.index-workers-k.result d) (Some c.in_ok-outlet.outlet, c.link.ensures)) inv.same;
      linked = subst (λ (l : List Inlet). (k : ℕ) (d : _) (e : _) → k < i + 1 → AreNewlyLinked c.args.round.now.pages.count (get_or (set ws i v) k d) (get_or l k e)) (sym more)
          (each_pair_step xs ws ts i v t inside inv.long (λ x _ b. AreNewlyLinked c.args.round.now.pages.count b x) (λ d. linked) inv.linked);
      left = left_step xs ws i v inside inv.left;
    }
