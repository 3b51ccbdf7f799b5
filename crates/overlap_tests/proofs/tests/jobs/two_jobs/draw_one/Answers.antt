use Rattle.std.proofs.Common.{◌≡◌, ◌+◌, ◌<◌, ◌≤◌, ℕ, None, length, get_or, subst, arith, rules}
use Rattle.page_index.specs.Document.{pages_begun}
use Rattle.dvi_run.specs.Rounds.{site}
use Rattle.overlap_tests.proofs.Jobs.{draws_on_after, fewer_pages}
use Rattle.overlap_tests.proofs.tests.jobs.two_jobs.draw_one.Goals as goal

pub draw_job-answer-requires : goal.draw_job-answer-requires
draw_job-answer-requires g c κs within =
    let count : c.pages-pages.result ≡ pages_begun c.args.index.now.reading = search rules in
    let most : c.pages-pages.result ≤ 8 = search rules in
    (search rules fits 100000 depth 60, (search rules fits 100000 depth 60, (search rules fits 100000 depth 60, (search rules fits 100000 depth 60, (search rules fits 100000 depth 60, (search rules, (search rules, (search rules, (search rules, ((λ k d lt. fewer_pages g.F.FontSource.library c.args.bench.now (8 + c.args._left) (pages_begun c.args.index.now.reading) (get_or c.args.workers.now k d) (omega (arith, count, most)) (c.requires.ready k d lt).draws), (λ k d lt. (c.requires.ready k d lt).unknown)))))))))))

pub returns : goal.returns
returns g c =
    let count : c.pages-pages.result ≡ pages_begun c.args.index.now.reading = search rules in
    let most : c.pages-pages.result ≤ 8 = search rules in
    let xs = c.args.workers.now in
    let ws = c.draw_job-answer.new.workers in
    let long : length ws ≡ length xs = search rules in
    let drew = c.draw_job-answer.ensures.drew in
    record {
      still = λ k d lt.
          let below : k < length xs = subst (λ (n : ℕ). k < n) long lt in
          draws_on_after (site g.F.FontSource.library g.F.FontSource.faults g.F.FontSource.loads c.args.bench.now None c.args.index.now _) _ _ (8 + c.args._left) c.args._left (k + 1) (get_or xs k d) (get_or ws k d) (omega (arith, count, most))
          (c.requires.ready k d below) (drew.2.worked k d below);
    }
