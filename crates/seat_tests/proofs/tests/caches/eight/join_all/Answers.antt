use Rattle.std.proofs.Common.{rules, ◌≡◌, ◌-◌, [], ◌∷◌, ◌++◌, ap, ◌∙◌, arith}
use Rattle.std.proofs.lemmas.List.Elements.{All-pop}
use lib.ListN.{get_elem?}
use Rattle.turn_lock.specs.declared.view.Stage.TheVariants.{Idle}
use Rattle.seat_tests.specs.declared.tests.caches.eight.Caller.{Caller}
use Rattle.seat_tests.proofs.Joined.{more_joined}
use Rattle.seat_tests.proofs.tests.caches.eight.join_all.Goals as goal

pub loop-i-preserved : goal.loop-i-preserved
loop-i-preserved c =
    let number : c.in_ok-seat.field-0.seat.view.number ≡ 8 - c.loop-i.i = omega arith in
    let grown : c.join.new.first.view.joined ≡ c.loop-i.first.view.joined ++ c.in_ok-seat.field-0.seat.view.number ∷ [] = ap (λ v. v.joined) c.join.ensures.seen in
    record {
      lock = search rules;
      number = search rules;
      idle = search rules;
      made = search rules;
      joined = λ n above below.
          let m = more_joined c.loop-i.first.view.joined c.in_ok-seat.field-0.seat.view.number c.loop-i.i c.loop-i-test.true number c.loop-i.invariant.joined n above below in
          (m.0, ap (λ l. get_elem? l m.0) grown ∙ m.1);
      callers = (All-pop (λ (w : Caller). (w.seat.lock ≡ c.args.cache.now) × (w.seat.view.stage ≡ Idle)) c.loop-i.callers.items c.pop.new.self.items c.pop.result c.pop.ensures.items c.loop-i.invariant.callers).0;
    }
