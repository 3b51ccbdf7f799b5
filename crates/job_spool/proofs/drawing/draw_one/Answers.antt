use Rattle.std.proofs.Common.{◌≡◌, Option, Some, get_or, rules, subst}
use Rattle.std.specs.Prelude.{IfSome}
use Rattle.page_index.specs.Pages.{Indexed, document_units}
use Rattle.page_workers.specs.Rounds.{MayDraw}
use Rattle.job_spool.specs.Sharing.{pages_in}
use Rattle.job_spool.proofs.drawing.draw_one.Goals as goal

pub draw_job-job-requires : goal.draw_job-job-requires
draw_job-job-requires g c κs within =
    let q = c.requires.1.1.1.1.1.1 in
    let bench = c.args.bench.now in (
      search rules fits 100000 depth 60,
      (
        search rules fits 100000 depth 60,
        (
          search rules fits 100000 depth 60,
          (
            search rules fits 100000 depth 60,
            (
              search rules fits 100000 depth 60,
              (
                q.0,
                (
                  q.1.0,
                  (
                    q.1.1.0,
                    (
                      subst (λ (o : Option Indexed). IfSome o (λ x. document_units x.res x.reading ≡ Some bench.units)) c.in-Some.is q.1.1.1.0,
                      (λ k d lt. subst (λ (o : Option Indexed). MayDraw g.F.FontSource.library bench (pages_in o) (get_or c.args.workers.now k d)) c.in-Some.is (q.1.1.1.1.0 k d lt), q.1.1.1.1.1),
                    ),
                  ),
                ),
              ),
            ),
          ),
        ),
      ),
    )
