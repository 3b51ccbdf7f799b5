use Rattle.std.proofs.Common.{◌≡◌, ◌+◌, ◌<◌, ◌∷◌, [], ◌++◌, inr, length, get_or, rules, subst, sym, refl, ◌∙◌, arith}
use Rattle.rtrb.specs.Ring.{known_items}
use Rattle.page_workers.proofs.Sending.{spare_self, spare_set}
use Rattle.page_workers.proofs.Taken.{all_set, one_more, some_at_head}
use Rattle.page_workers.proofs.taking.take_rest.Goals.{in-Some-take_head, in_default-take_head}
use Rattle.page_workers.proofs.taking.take_rest.Goals as goal

pub loop-taken-init : goal.loop-taken-init
loop-taken-init g c = record {
  most = c.requires.most;
  same = λ k d lt. spare_self (get_or c.args.workers.now k d);
  all = λ k d lt. refl;
  took = λ start w o results same some. (results, some);
}

pub take_head-requires : goal.take_head-requires
take_head-requires g c =
    some_at_head (c.args.pages.first + c.loop-taken.taken) (known_items (get_or c.loop-taken.inlets c.in-Some.k c.index-inlets-k.result).results) (c.in-Some.ensures.found.1 c.index-inlets-k.result)

pub loop-taken-preserved : goal.loop-taken-preserved
loop-taken-preserved g c =
    let inv = c.loop-taken.invariant in
    let k = c.in-Some.k in
    let it = c.index-inlets-k.result in
    let xs = c.args.workers.now in
    let ws = c.loop-taken.workers in
    let b = c.loop-taken.inlets in
    let x = c.take_head.new.inlet in
    let one = c.take_head.ensures in
    let inside : k < length b = search rules in
    let long : length b ≡ length c.args.inlets.now = search rules in
    let among : k < length c.args.inlets.now = subst (λ n. k < n) long inside in
    let of_workers : k < length xs = subst (λ n. k < n) c.requires.count among in
    let as_many : length ws ≡ length xs = search rules in
    record {
      most = omega (arith, c.loop-taken-test.true);
      same = elim c.match-take_head.branch [
        | in-Some-take_head w ↦ rw w.workers-is (spare_set xs ws k (subst (λ n. k < n) (sym as_many) of_workers) w.index-workers-k.result w.give_back.new.self w.give_back.ensures.same of_workers inv.same)
        | in_default-take_head w ↦ rw w.workers-is inv.same
      ];
      all = all_set c.args.inlets.now b k inside it x one.0 one.1 among inv.all;
      took = λ start w o results same some.
          let before = inv.took start w o results same some in (
            before.0 ++ one.0 ∷ [],
            one_more g.W.PageTaker.takes c.args.pages.first c.loop-taken.taken start b before.0 w o c.loop-taken.taker c.loop-taken.out before.1 (long ∙ sym same) k inside it x one.0 one.1
                (c.in-Some.ensures.found.1 it) c.take_head.new.taker c.take_head.new.out one.2,
          );
    }

pub returns-in_default-clause-ended : goal.returns-in_default-clause-ended
returns-in_default-clause-ended g c =
    let long : length c.loop-taken.inlets ≡ length c.args.inlets.now = search rules in
    inr (λ k d lt. c.holder.ensures.none c.in_default.is k d (subst (λ n. k < n) (sym long) lt))
