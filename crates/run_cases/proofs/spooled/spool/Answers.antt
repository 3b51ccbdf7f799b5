use denote.Param.Send.{sendable}
use Rattle.run_cases.proofs.fonts.Fonts.TheSendSync.{the_send}
use Rattle.std.proofs.Common.{◌≡◌, ◌≤◌, ◌∙◌, Some, length, get_or, ap, sym, subst, arith, rules}
use Rattle.std.specs.Prelude.{map, string_bytes}
use Rattle.page_workers.specs.Seating.{IsUnused}
use Rattle.dvi_run.proofs.RunOfWorkers.{ready_unknown}
use Rattle.job_spool.specs.Words.{pairs_of_words, spool_numbers}
use Rattle.run_cases.proofs.spooled.spool.Goals as goal

pub spool_run-answer-requires : goal.spool_run-answer-requires
spool_run-answer-requires g c κs within =
    let made = c.in_ok-workers.ensures in
    let ws = c.deref_mut.result.now in
    let same : ws ≡ c.in_ok-workers.workers.items = c.deref_mut.ensures.value in
    let long : length ws ≡ length c.in_ok-workers.workers.items = ap length same in
    let once : c.deref.result.now ≡ c.deref-2.result.now = c.deref.ensures.value ∙ sym c.deref-2.ensures.value in
    let fits = c.is_fit.ensures c.if-not-is_fit.false in (
      search rules fits 100000 depth 60,
      (
        search rules fits 100000 depth 60,
        (
          search rules fits 100000 depth 60,
          (
            search rules fits 100000 depth 60,
            (
              search rules fits 100000 depth 60,
              (
                search (sendable, rules, the_send) fits 100000 depth 60,
                (
                  search rules fits 100000 depth 60,
                  (
                    omega (arith, long, made.count),
                    (
                      omega (arith, long, made.count),
                      (
                        λ k d lt.
                            ready_unknown _ (get_or ws k d) (subst (λ xs. IsUnused (get_or xs k d)) (sym same) (made.unused k d (omega (arith, lt, long, made.count)))),
                        (
                          λ numbers is.
                              let both = fits numbers (subst (λ xs. spool_numbers (map string_bytes xs) ≡ Some numbers) (sym once) is) in
                              (omega (arith, both.0, long, made.count), both.1 ∙ ap (λ xs. length (pairs_of_words (map string_bytes xs))) once),
                          c.are_fresh.ensures c.if-not-are_fresh.false,
                        ),
                      ),
                    ),
                  ),
                ),
              ),
            ),
          ),
        ),
      ),
    )
