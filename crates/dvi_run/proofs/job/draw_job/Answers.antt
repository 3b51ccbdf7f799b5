use Rattle.std.proofs.Common.{◌≡◌, ℕ, length, get_or, sym, ap, subst, ◌∙◌, rules}
use Rattle.dvi_run.specs.Endings.{status_of, value_of_ending}
use Rattle.dvi_run.specs.Jobs.{JobAnswerIsTrue}
use Rattle.dvi_run.specs.Looked.{MayBreakOff, MayWantMemory}
use Rattle.dvi_run.specs.Outside.{change_of}
use Rattle.dvi_run.specs.Rounds.{site}
use Rattle.std.specs.Prelude.{Some}
use Rattle.dvi_run.proofs.JobCauses.{answer_is_true, same_end}
use Rattle.dvi_run.proofs.Jobs.{drew_job, may_begin_job}
use Rattle.dvi_run.proofs.job.draw_job.Goals as goal

pub returns-clause-caused : goal.returns-clause-caused
returns-clause-caused g c =
    let s = site g.F.FontSource.library g.F.FontSource.faults g.F.FontSource.loads c.args.bench.now g.known c.args.index.now c.args.sheet.now in
    let output = change_of g.O.Output.written g.O.Output.faults c.args.out.now c.write_rounds-ending.new.out in
    let xs = c.args.workers.now in
    let now = c.write_rounds-ending.new.workers in
    let x = c.write_rounds-ending.result.0 in
    let e = value_of_ending x in
    let made = c.write_rounds-ending.ensures in
    let status : c.status.result ≡ status_of e = c.status.ensures ∙ ap status_of (same_end x) in
    subst (λ (n : ℕ). JobAnswerIsTrue s output xs now n) (sym status)
    (answer_is_true s output xs now c.values.ensures.one x (made.ends.0, made.ends.1, made.ends.2) made.cause)

pub returns-clause-drew : goal.returns-clause-drew
returns-clause-drew g c =
    let q = c.requires.1.1.1.1.1 in
    let s = site g.F.FontSource.library g.F.FontSource.faults g.F.FontSource.loads c.args.bench.now g.known c.args.index.now c.args.sheet.now in
    let xs = c.args.workers.now in
    let now = c.write_rounds-ending.new.workers in
    let x = c.write_rounds-ending.result.0 in
    let e = value_of_ending x in
    let made = c.write_rounds-ending.ensures in
    let n = length xs in
    let tally = c.write_rounds-ending.result.1 in (
      e,
      c.status.ensures ∙ ap status_of (same_end x),
      record {
        tally = tally;
        ends = (made.ends.0, made.ends.1, made.ends.2, made.ends.3.next, made.ends.3.written);
        failed = made.cause;
        shares = made.shares;
        worked = λ k d lt.
            drew_job s (MayBreakOff e (Some tally)) (MayWantMemory n e) (get_or xs k d) (get_or now k d) (may_begin_job s (get_or xs k d) q.1.1.1.0 (q.1.1.1.1.0 k d lt) (q.1.1.1.1.1 k d lt)) (made.workers k d lt);
      },
    )

pub write_rounds-ending-requires : goal.write_rounds-ending-requires
write_rounds-ending-requires g c κs within =
    let q = c.requires.1.1.1.1.1 in
    let s = site g.F.FontSource.library g.F.FontSource.faults g.F.FontSource.loads c.args.bench.now g.known c.args.index.now c.args.sheet.now in
    let xs = c.args.workers.now in (
      search rules fits 100000 depth 60,
      (
        search rules fits 100000 depth 60,
        (
          search rules fits 100000 depth 60,
          (
            search rules fits 100000 depth 60,
            (search rules fits 100000 depth 60, (search rules fits 100000 depth 60, (q.0, (q.1.0, λ k d lt. may_begin_job s (get_or xs k d) q.1.1.1.0 (q.1.1.1.1.0 k d lt) (q.1.1.1.1.1 k d lt))))),
          ),
        ),
      ),
    )
