use Rattle.std.proofs.Common.{ap, codes}
use Rattle.run_report.specs.Summary.{count_line}
use Rattle.dvi_run.proofs.Puts.{puts_as, puts_twice}
use Rattle.job_spool.proofs.notes.put_counts.Goals as goal

pub returns : goal.returns
returns g c =
    let looks = puts_as (ap (count_line (codes "looks")) c.all_looks.ensures) c.put_count.ensures in
    let hits = puts_as (ap (count_line (codes "hits")) c.all_hits.ensures) c.put_count-2.ensures in
    puts_twice (puts_twice looks hits) c.put_count-3.ensures
