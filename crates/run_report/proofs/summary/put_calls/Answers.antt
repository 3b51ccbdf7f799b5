use Rattle.std.proofs.Common.{ap, codes}
use Rattle.run_report.specs.Summary.{count_line}
use Rattle.run_report.proofs.Joined.{puts_as, puts_twice}
use Rattle.run_report.proofs.summary.put_calls.Goals as goal

pub returns : goal.returns
returns g c =
    let tally = c.tally_of-tally.ensures in
    let looks = puts_as (ap (count_line (codes "looks")) tally.looks) c.put_line.ensures in
    let hits = puts_as (ap (count_line (codes "hits")) tally.hits) c.put_line-2.ensures in
    let claims = puts_as (ap (count_line (codes "claims")) tally.claims) c.put_line-3.ensures in
    let busy = puts_as (ap (count_line (codes "busy")) tally.busy) c.put_line-4.ensures in
    let evictions = puts_as (ap (count_line (codes "evictions")) tally.evictions) c.put_line-5.ensures in
    let releases = puts_as (ap (count_line (codes "releases")) tally.releases) c.put_line-6.ensures in
    puts_twice (puts_twice (puts_twice (puts_twice (puts_twice looks hits) claims) busy) evictions) releases
