use Rattle.std.proofs.Common.{◌≡◌, ◌<◌, ◌++◌, ℕ, inl, inr, List, [], length, get_or, rules, subst, sym, ap, ◌∙◌, arith}
use Rattle.page_counter.specs.Numbers.{EachOnce}
use Rattle.page_counter.specs.Views.{claims_of}
use Rattle.page_workers.specs.declared.rings.Inlet.{Inlet}
use Rattle.page_workers.specs.declared.worker.Worker.{Worker}
use Rattle.page_workers.specs.Handing.{Looked, TookSome}
use Rattle.page_workers.proofs.HandedRounds.{are_linked, handed_round, has_outlet, kept_self, may_take_part, nothing_sent, still_seated, with_self}
use Rattle.page_workers.proofs.Shares.{no_claims, some_of}
use Rattle.page_workers.proofs.Taken.{after_look}
use Rattle.page_workers.proofs.handing.hand_opened.Goals as goal

pub draw_and_take-taken-requires-clause-ready : goal.draw_and_take-taken-requires-clause-ready
draw_and_take-taken-requires-clause-ready g c κs within =
    let os = c.args.workers.now in
    let ss = c.seat_at_counter.new.workers in
    let id = c.args.opened.round.counter in
    let seated : length ss ≡ length os = search rules in
    let n = c.args.inlets.now in
    let e = some_of n (let many = c.requires.rings in omega (arith, many, c.requires.some_worker)) in
    record {
      inside = c.requires.inside;
      ready = λ k d lt.
          let there : k < length os = omega (arith, lt, seated) in
          may_take_part g.F.FontSource.library g.F.FontSource.faults g.F.FontSource.loads c.args.opened.job.now.bench.now c.args.opened.job.now.index.now c.args.opened.job.now.sheet.now c.args.opened.round.pages.first c.args.opened.round.pages.count id (get_or os k d) (get_or os k d) (get_or os k d) (get_or ss k d) (c.requires.ready k d there) (kept_self (get_or os k d)) (c.requires.room k d there) (with_self (get_or os k d)) (c.seat_at_counter.ensures.got k d there);
      outlet = λ k d lt.
          let there : k < length os = omega (arith, lt, seated) in
          has_outlet g.F.FontSource.library g.F.FontSource.faults g.F.FontSource.loads c.args.opened.job.now.bench.now c.args.opened.job.now.index.now c.args.opened.job.now.sheet.now c.args.opened.round.pages.first c.args.opened.round.pages.count id (get_or os k d) (get_or os k d) (get_or os k d) (get_or ss k d) (get_or n k e) c.args.opened.round.pages.some_page (c.requires.ready k d there) (kept_self (get_or os k d)) (c.requires.room k d there)
          (with_self (get_or os k d)) (c.requires.linked k e d there) (c.seat_at_counter.ensures.got k d there);
      unsent = λ k d o lt is.
          let there : k < length os = omega (arith, lt, seated) in
          nothing_sent g.F.FontSource.library g.F.FontSource.faults g.F.FontSource.loads c.args.opened.job.now.bench.now c.args.opened.job.now.index.now c.args.opened.job.now.sheet.now c.args.opened.round.pages.first c.args.opened.round.pages.count id (get_or os k d) (get_or ss k d) (get_or n k e) (c.requires.linked k e d there) (c.seat_at_counter.ensures.got k d there) o is;
    }

pub draw_and_take-taken-requires-clause-unreceived : goal.draw_and_take-taken-requires-clause-unreceived
draw_and_take-taken-requires-clause-unreceived g c κs within =
    let w = some_of c.args.workers.now c.requires.some_worker in
    λ k d lt. (c.requires.linked k d w (let many = c.requires.rings in omega (arith, lt, many))).unreceived

pub close_rings-requires-clause-linked : goal.close_rings-requires-clause-linked
close_rings-requires-clause-linked g c =
    let os = c.args.workers.now in
    let ss = c.seat_at_counter.new.workers in
    let ds = c.draw_and_take-taken.new.workers in
    let id = c.args.opened.round.counter in
    let seated : length ss ≡ length os = search rules in
    let drawn : length ds ≡ length ss = search rules in
    let n0 = c.args.inlets.now in
    let n1 = c.draw_and_take-taken.new.inlets in
    let many = c.requires.rings in
    let took = c.draw_and_take-taken.ensures.took in
    λ k e d lt.
    let there : k < length os = omega (arith, lt, seated, drawn) in
    are_linked g.F.FontSource.library g.F.FontSource.faults g.F.FontSource.loads c.args.opened.job.now.bench.now c.args.opened.job.now.index.now c.args.opened.job.now.sheet.now c.args.opened.round.pages.first c.args.opened.round.pages.count id (get_or os k d) (get_or ss k d) (get_or ds k d) (get_or n0 k e) (get_or n1 k e) (c.requires.linked k e d there) (c.seat_at_counter.ensures.got k d there)
    (c.draw_and_take-taken.ensures.parts k d (omega (arith, there, seated))) (took.1.rings k e (omega (arith, there, many)))

pub join_at_counter-requires-clause-seated : goal.join_at_counter-requires-clause-seated
join_at_counter-requires-clause-seated g c =
    let ss = c.seat_at_counter.new.workers in
    let ds = c.draw_and_take-taken.new.workers in
    let cs = c.close_rings.new.workers in
    let ts = c.take_rest.new.workers in
    let drawn : length ds ≡ length ss = search rules in
    let closed : length cs ≡ length ds = search rules in
    let rested : length ts ≡ length cs = search rules in
    λ k d lt.
    let there : k < length ss = omega (arith, lt, drawn, closed, rested) in
    still_seated g.F.FontSource.library g.F.FontSource.faults g.F.FontSource.loads c.args.opened.job.now.bench.now c.args.opened.job.now.index.now c.args.opened.job.now.sheet.now c.args.opened.round.pages.first c.args.opened.round.pages.count c.args.opened.round.counter (get_or ss k d) (get_or ds k d) (get_or cs k d) (get_or ts k d) (c.draw_and_take-taken.ensures.parts k d there) (c.close_rings.ensures.same k d (omega (arith, there, drawn)))
    (c.take_rest.ensures.same k d (omega (arith, there, drawn, closed)))

pub returns-clause-no_counter : goal.returns-clause-no_counter
returns-clause-no_counter g c =
    let seated : length c.seat_at_counter.new.workers ≡ length c.args.workers.now = search rules in
    let drawn : length c.draw_and_take-taken.new.workers ≡ length c.seat_at_counter.new.workers = search rules in
    let closed : length c.close_rings.new.workers ≡ length c.draw_and_take-taken.new.workers = search rules in
    let rested : length c.take_rest.new.workers ≡ length c.close_rings.new.workers = search rules in
    λ k d lt. ap (λ (w : Worker _). w.counter) (c.join_at_counter.ensures.gave k d no_claims (omega (arith, lt, seated, drawn, closed, rested))).is

pub returns-clause-handed : goal.returns-clause-handed
returns-clause-handed g c =
    let os = c.args.workers.now in
    let ss = c.seat_at_counter.new.workers in
    let ds = c.draw_and_take-taken.new.workers in
    let cs = c.close_rings.new.workers in
    let ts = c.take_rest.new.workers in
    let js = c.join_at_counter.new.workers in
    let seats = c.join_at_counter.new.first.view.joined in
    let id = c.args.opened.round.counter in
    let Takes = g.W.PageTaker.takes in
    let first = c.args.opened.round.pages.first in
    let seated : length ss ≡ length os = search rules in
    let drawn : length ds ≡ length ss = search rules in
    let closed : length cs ≡ length ds = search rules in
    let rested : length ts ≡ length cs = search rules in
    let joined : length js ≡ length ts = search rules in
    let n0 = c.args.inlets.now in
    let n1 = c.draw_and_take-taken.new.inlets in
    let n2 = c.close_rings.new.inlets in
    let n3 = c.take_rest.new.inlets in
    let n0_long = c.requires.rings in
    let n1_long : length n1 ≡ length n0 = search rules in
    let n2_long : length n2 ≡ length n1 = search rules in
    let w = some_of os c.requires.some_worker in
    let e = some_of n0 (omega (arith, n0_long, c.requires.some_worker)) in
    let t0 = c.args.taker.now in
    let o0 = c.args.out.now in
    let t1 = c.draw_and_take-taken.new.taker in
    let o1 = c.draw_and_take-taken.new.out in
    let t3 = c.take_rest.new.taker in
    let o3 = c.take_rest.new.out in
    let took = c.draw_and_take-taken.ensures.took in
    let looked : (k : ℕ) (d : Inlet) → k < length n0 → Looked (get_or n1 k d) (get_or n2 k d) = λ k d lt. c.close_rings.ensures.looked k d (omega (arith, lt, n0_long, seated, drawn)) in
    let before : TookSome Takes first c.draw_and_take-taken.result n0 n2 took.0 t0 o0 t1 o1 = after_look Takes first c.draw_and_take-taken.result n0 n1 took.0 t0 o0 t1 o1 took.1 n2 looked in
    let all = c.take_rest.ensures.took n0 t0 o0 took.0 (sym n1_long ∙ sym n2_long) before in
    let claims : c.join_at_counter.new.first.view.claims ≡ [] = search rules in
    let once : EachOnce c.close.result (claims_of seats) = subst (λ (l : List ℕ). EachOnce c.close.result (l ++ claims_of seats)) claims c.close.ensures.once in (
      all.0,
      handed_round g.F.FontSource.library g.F.FontSource.faults g.F.FontSource.loads c.args.opened.job.now.bench.now c.args.opened.job.now.index.now c.args.opened.job.now.sheet.now c.args.opened.round.pages.first c.args.opened.round.pages.count id os os os ss ds cs ts js seats n0 n2 n3 w e
          (λ k d lt. kept_self (get_or os k d))
          (λ k d lt. with_self (get_or os k d))
          (λ k d lt. c.seat_at_counter.ensures.got k d lt)
          (λ k d lt. c.draw_and_take-taken.ensures.parts k d (omega (arith, lt, seated)))
          (λ k d lt. c.close_rings.ensures.same k d (omega (arith, lt, seated, drawn)))
          (λ k d lt. c.take_rest.ensures.same k d (omega (arith, lt, seated, drawn, closed)))
          (λ k d t lt. c.join_at_counter.ensures.gave k d t (omega (arith, lt, seated, drawn, closed, rested)))
          c.close.result once (let many = c.join_at_counter.ensures.joined in omega (arith, many, seated, drawn, closed, rested)) c.requires.some_worker c.args.opened.round.pages.some_page
          (λ k n d o lt is. c.close_rings.ensures.known k n d o (omega (arith, lt, seated, drawn)) is)
          (λ k n lt. c.take_rest.ensures.all k n (omega (arith, lt, n0_long, n1_long, n2_long)))
          (λ k d lt. (c.requires.ready k d lt).no_result)
          Takes c.take_rest.result all.0 t0 o0 t3 o3 all.1 n0_long
          (elim c.take_rest.ensures.ended [ inl full ↦ inl full | inr none ↦ inr (λ k n lt. none k n (omega (arith, lt, n0_long, n1_long, n2_long))) ])
          (omega (arith, seated, drawn, closed, rested, joined)),
      all.1.took,
    )
