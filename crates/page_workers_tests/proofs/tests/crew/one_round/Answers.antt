use Rattle.std.proofs.Common.{◌≡◌, ◌+◌, ◌<◌, ◌≤◌, ℕ, length, get_or, subst, rules}
use Rattle.std.proofs.lemmas.List.Elements.{All-get_or}
use Rattle.page_workers.specs.declared.bench.Bench.{Bench}
use Rattle.page_workers.specs.Seating.{IsUnused, numbers}
use Rattle.page_workers.proofs.Numbers.{numbers_joined}
use Rattle.page_workers.proofs.Rounds.{seated_may_draw, drawn_may_leave}
use Rattle.page_workers_tests.proofs.tests.crew.one_round.Goals as goal

pub draw_round-requires-clause-ready : goal.draw_round-requires-clause-ready
draw_round-requires-clause-ready g c κs within =
    let xs = c.args.workers.now in
    let ws = c.seat_all.new.workers in
    let long : length ws ≡ length xs = search rules in
    let bench : Bench = record { cache = c.in_ok-cache.cache; units = c.units-units.result } in
    let few : c.pages-count.result ≤ 32 = search rules in
    λ j d lt.
    let below : j < length xs = subst (λ (n : ℕ). j < n) long lt in
    seated_may_draw g.F.FontSource.library bench c.in_ok-cache.first.view.part (j + 1) c.pages-count.result (get_or xs j d) (get_or ws j d) few
    (record { units = search rules; sound = search rules; knows_library = search rules }) (All-get_or IsUnused xs j d below c.requires.unused) (c.seat_all.ensures.seated j d below)

pub join_all-requires-clause-leave : goal.join_all-requires-clause-leave
join_all-requires-clause-leave g c =
    let xs = c.args.workers.now in
    let ws = c.seat_all.new.workers in
    let now = c.draw_round.new.workers in
    let long : length ws ≡ length xs = search rules in
    let same : length now ≡ length ws = search rules in
    λ k d lt.
    let there : k < length ws = subst (λ (n : ℕ). k < n) same lt in
    let below : k < length xs = subst (λ (n : ℕ). k < n) long there in
    let round = c.in_ok-draw_round.ensures.drawn in
    drawn_may_leave g.F.FontSource.library g.F.FontSource.faults g.F.FontSource.loads (record { cache = c.in_ok-cache.cache; units = c.units-units.result }) c.in_ok-cache.first.view.part _ _ (k + 1) (round.drawn k)
    (get_or xs k d) (get_or ws k d) (get_or now k d) (c.seat_all.ensures.seated k d below) (round.each k d there)

pub close-requires-clause-joined : goal.close-requires-clause-joined
close-requires-clause-joined g c =
    let n = length c.args.workers.now in
    let long : length c.draw_round.new.workers ≡ n = search rules in
    let made : c.join_all.new.first.view.made ≡ n + 1 = search rules in
    let joined = subst (λ (m : ℕ). c.join_all.new.first.view.joined ≡ numbers m) long c.join_all.ensures.joined in
    numbers_joined c.join_all.new.first.view n made joined
