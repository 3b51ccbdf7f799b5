-- Why no raster was made.
use Rattle.pk_runs.specs.declared.faults.RunFault.{RunFault}
use Rattle.pk_runs.specs.declared.faults.RunStop.{RunStop}
use Rattle.pk_runs.specs.declared.faults.RunStop.TheVariants.{Fault, NoMemory}

-- a fact of the fault, where there is one
abbrev pub IfFault : RunStop → (RunFault → Type 0) → Type 0
IfFault (Fault f) P = P f
IfFault NoMemory P = Unit {0}
