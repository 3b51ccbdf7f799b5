use Rattle.std.proofs.Common.{◌≡◌, ℕ, ◌<◌, List, [], ◌++◌, length, get_or, rules, subst, ap, arith}
use Rattle.std.proofs.lemmas.Grind.{common_steps}
use Rattle.page_counter.specs.Numbers.{EachOnce}
use Rattle.page_counter.specs.Views.{claims_of}
use Rattle.page_workers.specs.declared.worker.Worker.{Worker}
use Rattle.page_workers.specs.Claims.{TookPart}
use Rattle.page_workers.proofs.Claims.{drew_free}
use Rattle.page_workers.proofs.Shares.{drew_round, fewer_in_round, share_of, some_of, no_claims}
use Rattle.page_workers.proofs.round.draw_round.Goals as goal

pub returns-clause-drawn : goal.returns-clause-drawn
returns-clause-drawn g c =
    let library = g.F.FontSource.library in
    let faults = g.F.FontSource.faults in
    let loads = g.F.FontSource.loads in
    let bench = c.args.bench.now in
    let indexed = c.args.index.now in
    let sheet = c.args.sheet.now in
    let id = c.in_ok-counter.counter in
    let before = c.args.workers.now in
    let reserved = c.reserve_all.new.workers in
    let seated = c.seat_at_counter.new.workers in
    let drawn = c.for_each_mut.new.s in
    let after = c.join_at_counter.new.workers in
    let seats = c.join_at_counter.new.first.view.joined in
    let reserved_all : length reserved ≡ length before = search rules in
    let seated_all : length seated ≡ length reserved = search rules in
    let drawn_all : length drawn ≡ length seated = search rules in
    let after_all : length after ≡ length drawn = search rules in
    let claims : c.join_at_counter.new.first.view.claims ≡ [] = search rules in
    let once : EachOnce c.close.result (claims_of seats) = subst (λ (l : List ℕ). EachOnce c.close.result (l ++ claims_of seats)) claims c.close.ensures.once in
    let w = some_of before c.requires.some_worker in
    drew_round library faults loads bench indexed sheet c.args.first c.args.count c.close.result seats once before after w (omega (arith, c.join_at_counter.ensures.joined)) c.requires.some_worker c.requires.some_page
    (λ k lt.
    let in_seated : k < length seated = omega arith in
    let part : TookPart library faults loads bench indexed sheet id c.args.first c.args.count (get_or seated k w) (get_or drawn k w) = grind (arith, common_steps, c.for_each_mut.ensures k w in_seated) in
    share_of library faults loads bench indexed sheet c.args.first c.args.count id id (get_or before k w) (get_or reserved k w) (get_or seated k w) (get_or drawn k w) (get_or after k w) (get_or seats k no_claims)
    (c.reserve_all.ensures.kept k w lt) (c.seat_at_counter.ensures.got k w (omega arith)) part (c.join_at_counter.ensures.gave k w no_claims (omega arith)))
    (omega arith)

pub returns-clause-no_counter : goal.returns-clause-no_counter
returns-clause-no_counter g c =
    let reserved_all : length c.reserve_all.new.workers ≡ length c.args.workers.now = search rules in
    let seated_all : length c.seat_at_counter.new.workers ≡ length c.reserve_all.new.workers = search rules in
    let drawn_all : length c.for_each_mut.new.s ≡ length c.seat_at_counter.new.workers = search rules in
    λ k d lt. ap (λ (w : Worker _). w.counter) (c.join_at_counter.ensures.gave k d no_claims (omega arith)).is

pub returns-clause-no_claim : goal.returns-clause-no_claim
returns-clause-no_claim g c =
    let drew = returns-clause-drawn g c in
    let before = c.args.workers.now in
    let after = c.join_at_counter.new.workers in
    let reserved_all : length c.reserve_all.new.workers ≡ length before = search rules in
    let seated_all : length c.seat_at_counter.new.workers ≡ length c.reserve_all.new.workers = search rules in
    let drawn_all : length c.for_each_mut.new.s ≡ length c.seat_at_counter.new.workers = search rules in
    let after_all : length after ≡ length c.for_each_mut.new.s = search rules in
    λ k d lt.
    let there : k < length before = omega arith in
    drew_free g.F.FontSource.library g.F.FontSource.faults g.F.FontSource.loads c.args.bench.now c.args.index.now c.args.sheet.now (drew.drawn k) (get_or before k d) (get_or after k d)
    (c.requires.ready k d there).fits (drew.each k d there)

pub returns-clause-fewer : goal.returns-clause-fewer
returns-clause-fewer g c =
    let library = g.F.FontSource.library in
    let faults = g.F.FontSource.faults in
    let loads = g.F.FontSource.loads in
    let before = c.args.workers.now in
    let reserved = c.reserve_all.new.workers in
    let seated = c.seat_at_counter.new.workers in
    let drawn = c.for_each_mut.new.s in
    let after = c.join_at_counter.new.workers in
    let id = c.in_ok-counter.counter in
    let seats = c.join_at_counter.new.first.view.joined in
    let reserved_all : length reserved ≡ length before = search rules in
    let seated_all : length seated ≡ length reserved = search rules in
    let drawn_all : length drawn ≡ length seated = search rules in
    λ k d lt.
    let in_seated : k < length seated = omega arith in
    let part : TookPart library faults loads c.args.bench.now c.args.index.now c.args.sheet.now id c.args.first c.args.count (get_or seated k d) (get_or drawn k d) = grind (arith, common_steps, c.for_each_mut.ensures k d in_seated) in
    fewer_in_round id (get_or before k d) (get_or reserved k d) (get_or seated k d) (get_or drawn k d) (get_or after k d) (get_or seats k no_claims)
    (c.reserve_all.ensures.kept k d lt) (c.seat_at_counter.ensures.got k d (omega arith)) part.spare_pages (c.join_at_counter.ensures.gave k d no_claims (omega arith))
