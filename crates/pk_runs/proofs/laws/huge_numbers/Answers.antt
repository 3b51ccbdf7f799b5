use Rattle.pk_runs.proofs.Huge.{huge_repeats_are_too_many_rows, huge_runs_overrun}
use Rattle.pk_runs.proofs.laws.huge_numbers.Goals as goal

pub returns-clause-runs : goal.returns-clause-runs
returns-clause-runs c = huge_runs_overrun

pub returns-clause-repeats : goal.returns-clause-repeats
returns-clause-repeats c = huge_repeats_are_too_many_rows
