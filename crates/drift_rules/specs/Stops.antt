-- Why the code takes no step.
use Rattle.std.specs.Prelude.{◌≡◌, Result, Err, IsOk, IsTrue}
use Rattle.drift_rules.specs.declared.faults.PenFault.{PenFault}
use Rattle.drift_rules.specs.declared.faults.PenStop.{PenStop}
use Rattle.drift_rules.specs.declared.faults.PenStop.TheVariants as stop
use Rattle.drift_rules.specs.Position.{FlatCommand, State}
use Rattle.drift_rules.specs.Stack.{is_push}

-- by the fault that there is in place of a state after the command; or, where there is such a state
-- and the command saves registers, for want of memory
abbrev pub Stops : Result State PenFault → FlatCommand → PenStop → Type 0
Stops outcome flat (stop.Fault fault) = outcome ≡ Err fault
Stops outcome flat stop.NoMemory = IsOk outcome × IsTrue (is_push flat)
