use Rattle.std.proofs.lemmas.List.Concat.{flat_map-append}
use Rattle.run_report.specs.Trace.{entry_line}
use Rattle.run_report.proofs.ReadBack.{lines_determine_calls, traces_determine_calls}
use Rattle.run_report.proofs.laws.traces.Goals as goal

pub returns-clause-joined : goal.returns-clause-joined
returns-clause-joined c = λ xs ys. flat_map-append entry_line xs ys

pub returns-clause-lines : goal.returns-clause-lines
returns-clause-lines c = lines_determine_calls

pub returns-clause-tell : goal.returns-clause-tell
returns-clause-tell c = traces_determine_calls
