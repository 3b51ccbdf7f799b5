use denote.Param.Send.{sendable}
use Rattle.overlap_tests.proofs.tests.source.Held.TheSendSync.{the_send}
use Rattle.std.proofs.Common.{◌≡◌, ◌<◌, ◌≤◌, length, get_or, ap, sym, subst, arith, rules}
use Rattle.page_workers.specs.Seating.{IsUnused}
use Rattle.dvi_run.proofs.RunOfWorkers.{ready_unknown}
use Rattle.overlap_tests.proofs.tests.runs.run.Goals as goal

pub run_with-status-requires : goal.run_with-status-requires
run_with-status-requires g c κs within =
    let made = c.in_ok-workers.ensures in
    let ws = c.deref_mut.result.now in
    let same : ws ≡ c.in_ok-workers.workers.items = c.deref_mut.ensures.value in
    let long : length ws ≡ length c.in_ok-workers.workers.items = ap length same in (
      search rules fits 100000 depth 60,
      (
        search rules fits 100000 depth 60,
        (
          search rules fits 100000 depth 60,
          (
            search rules fits 100000 depth 60,
            (
              search rules fits 100000 depth 60,
              (
                search (sendable, rules, the_send) fits 100000 depth 60,
                (
                  search rules fits 100000 depth 60,
                  (
                    c.settings-settings.ensures.allowed,
                    (
                      omega (arith, long, made.count, c.settings-settings.ensures.two),
                      (
                        λ k d lt.
                            ready_unknown _ (get_or ws k d) (subst (λ xs. IsUnused (get_or xs k d)) (sym same) (made.unused k d (omega (arith, lt, c.settings-settings.ensures.two)))),
                        search rules,
                      ),
                    ),
                  ),
                ),
              ),
            ),
          ),
        ),
      ),
    )
