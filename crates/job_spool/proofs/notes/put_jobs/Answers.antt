use Rattle.std.proofs.Common.{◌≡◌, ◌<◌, ap, arith, length, rules}
use Rattle.dvi_run.proofs.Puts.{puts_as, puts_none, puts_twice}
use Rattle.job_spool.specs.Notes.{job_lines, statuses_of}
use Rattle.job_spool.proofs.JobLines.{lines_more}
use Rattle.job_spool.proofs.notes.put_jobs.Goals as goal

pub loop-k-init : goal.loop-k-init
loop-k-init g c = puts_none

pub loop-k-preserved : goal.loop-k-preserved
loop-k-preserved g c =
    let inside : c.loop-k.k < length c.args.jobs.now = search rules in
    puts_as (lines_more c.args.jobs.now c.loop-k.k c.index-jobs-k.result inside) (puts_twice c.loop-k.invariant c.put_job.ensures)

pub returns : goal.returns
returns g c =
    let all : c.loop-k.k ≡ length c.args.jobs.now = omega (arith, c.loop-k-test.false, c.loop-k.auto.k-end) in
    puts_as (ap (job_lines (statuses_of c.args.jobs.now)) all) c.loop-k.invariant
