-- Why a file wasn't read.
use Rattle.vf_reader.specs.declared.faults.VfFault.{VfFault}
use Rattle.vf_reader.specs.declared.faults.VfStop.{VfStop}
use Rattle.vf_reader.specs.declared.faults.VfStop.TheVariants.{Fault, NoMemory}

-- a fact of the fault, where there is one; want of memory may come at any file
abbrev pub IfFault : VfStop → (VfFault → Type 0) → Type 0
IfFault (Fault f) P = P f
IfFault NoMemory P = Unit {0}
