use Rattle.std.proofs.Common.{◌*◌, ◌^◌, ◌≤◌, take}
use Rattle.cache_core.specs.Views.{calls_of}
use Rattle.run_report.specs.Tallies.{IsTally}
use Rattle.run_report.proofs.tally.tally_of.Given as goal

abbrev pub invariant-loop-entry : goal.invariant-loop-entry
invariant-loop-entry l = IsTally l.tally (calls_of (take l.entry-index l.history)) × (l.tally.evictions ≤ l.entry-index * 2 ^ 64)
