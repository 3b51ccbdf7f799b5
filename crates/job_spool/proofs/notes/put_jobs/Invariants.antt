use Rattle.run_report.specs.Puts.{Puts}
use Rattle.job_spool.specs.Notes.{job_lines, statuses_of}
use Rattle.job_spool.proofs.notes.put_jobs.Given as goal

abbrev pub invariant-loop-k : goal.invariant-loop-k
invariant-loop-k g l =
    Puts l.initial.gather l.gather (g.N.Output.written l.initial.notes) (g.N.Output.written l.notes) (g.N.Output.faults l.initial.notes) (g.N.Output.faults l.notes) (job_lines (statuses_of l.jobs) l.k)
