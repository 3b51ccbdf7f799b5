use Rattle.std.proofs.Common.{◌≡◌, ◌++◌, ℕ, Some, ◌<◌, ◌≤◌, length, get_or, rules, subst, sym, ap, ◌∙◌, arith}
use Rattle.rtrb.specs.Ring.{sent, received, known_items}
use Rattle.page_workers.specs.declared.rings.Outlet.{Outlet}
use Rattle.page_workers.specs.Handing.{AreLinked, Looked}
use Rattle.page_workers.specs.SparePages.{SameButSparePages}
use Rattle.page_workers.proofs.Lists.{each_step, left_step, here}
use Rattle.page_workers.proofs.rings.close_rings.Goals as goal

pub close_rings-requires : goal.close_rings-requires
close_rings-requires g c =
    let i : ℕ = c.loop-k.k in
    let inv = c.loop-k.invariant in
    let xs = c.args.workers.now in
    let ns = c.args.inlets.now in
    let w = c.index-workers-k.result in
    let n = c.index-inlets-k.result in
    let below : i < length xs = search rules in
    subst (λ a. AreLinked a (get_or c.loop-k.inlets i n)) (sym (inv.left i w (omega arith)))
    (subst (λ b. AreLinked (get_or xs i w) b) (sym (inv.others i n (omega arith))) (c.requires.linked i n w below))

pub loop-k-preserved : goal.loop-k-preserved
loop-k-preserved g c =
    let i : ℕ = c.loop-k.k in
    let inv = c.loop-k.invariant in
    let xs = c.args.workers.now in
    let ws = c.loop-k.workers in
    let ns = c.args.inlets.now in
    let ms = c.loop-k.inlets in
    let w = c.index-workers-k.result in
    let n = c.index-inlets-k.result in
    let inside : i < length ws = search rules in
    let among : i < length ms = search rules in
    let v = c.close_rings.new.self in
    let m = c.close_rings.new.inlet in
    record {
      same = each_step xs ws i v inside (λ _ a b. SameButSparePages a b) (λ d. subst (λ a. SameButSparePages a v) (here xs ws i v inside inv.left w d) c.close_rings.ensures.same) inv.same;
      looked = each_step ns ms i m among (λ _ a b. Looked a b) (λ d. subst (λ a. Looked a m) (here ns ms i m among inv.others n d) c.close_rings.ensures.looked) inv.looked;
      known = each_step ns ms i m among (λ k a b. (d : _) (o : Outlet) → (get_or xs k d).outlet ≡ Some o → received b.results ++ known_items b.results ≡ sent o.results)
          (λ e d o is. c.close_rings.ensures.known o (ap (λ x. x.outlet) (here xs ws i v inside inv.left w d) ∙ is)) inv.known;
      left = left_step xs ws i v inside inv.left;
      others = left_step ns ms i m among inv.others;
    }

pub returns-clause-known : goal.returns-clause-known
returns-clause-known g c =
    let all : length c.args.workers.now ≤ c.loop-k.k = search rules in
    λ k e d o lt is. c.loop-k.invariant.known k e (omega (arith, lt, all)) d o is

pub returns-clause-looked : goal.returns-clause-looked
returns-clause-looked g c =
    let all : length c.args.workers.now ≤ c.loop-k.k = search rules in
    λ k d lt. c.loop-k.invariant.looked k d (omega (arith, lt, all))

pub returns-clause-same : goal.returns-clause-same
returns-clause-same g c =
    let all : length c.args.workers.now ≤ c.loop-k.k = search rules in
    λ k d lt. c.loop-k.invariant.same k d (omega (arith, lt, all))
