-- Why a file wasn't read.
use Rattle.pk_packets.specs.declared.faults.PkFault.{PkFault}
use Rattle.pk_packets.specs.declared.faults.PkStop.{PkStop}
use Rattle.pk_packets.specs.declared.faults.PkStop.TheVariants.{Fault, NoMemory}

-- a fact of the fault, where there is one; want of memory may come at any file
abbrev pub IfFault : PkStop → (PkFault → Type 0) → Type 0
IfFault (Fault f) P = P f
IfFault NoMemory P = Unit {0}
