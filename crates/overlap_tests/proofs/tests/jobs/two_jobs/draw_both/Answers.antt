use Rattle.std.proofs.Common.{◌≡◌, ◌+◌, ◌<◌, ◌≤◌, ℕ, None, length, get_or, subst, arith, rules}
use Rattle.page_workers.specs.declared.bench.Bench.{Bench}
use Rattle.page_workers.specs.Seating.{numbers}
use Rattle.page_workers.proofs.Numbers.{numbers_joined}
use Rattle.overlap_tests.proofs.Jobs.{seated_draws_on}
use Rattle.overlap_tests.proofs.tests.jobs.two_jobs.draw_both.Goals as goal

pub draw_one-requires : goal.draw_one-requires
draw_one-requires g c =
    let xs = c.args.workers.now in
    let ws = c.seat_all.new.workers in
    let long : length ws ≡ length xs = search rules in
    let bench : Bench = record { cache = c.in_ok-cache.cache; units = c.units-units.result } in (
      search rules fits 100000 depth 60,
      (
        search rules fits 100000 depth 60,
        (
          search rules,
          (
            search rules,
            λ k d lt.
                let below : k < length xs = subst (λ (n : ℕ). k < n) long lt in
                seated_draws_on g.F.FontSource.library bench c.in_ok-cache.first.view.part (k + 1) 16 (get_or xs k d) (get_or ws k d) (omega arith)
                (record { units = search rules; sound = search rules; knows_library = search rules }) (search rules) (c.requires.unused k d below) (c.seat_all.ensures.seated k d below),
          ),
        ),
      ),
    )

pub draw_one-requires-2 : goal.draw_one-requires-2
draw_one-requires-2 g c = (search rules fits 100000 depth 60, (search rules fits 100000 depth 60, (search rules, (search rules, c.in_ok-job.ensures.still))))

pub join_all-requires-clause-leave : goal.join_all-requires-clause-leave
join_all-requires-clause-leave g c = λ k d lt. (c.in_ok-later_job.ensures.still k d lt).leaves

pub close-requires-clause-joined : goal.close-requires-clause-joined
close-requires-clause-joined g c =
    let n = length c.args.workers.now in
    let long : length c.draw_one-2.new.workers ≡ n = search rules in
    let made : c.join_all.new.first.view.made ≡ n + 1 = search rules in
    let joined = subst (λ (m : ℕ). c.join_all.new.first.view.joined ≡ numbers m) long c.join_all.ensures.joined in
    numbers_joined c.join_all.new.first.view n made joined
