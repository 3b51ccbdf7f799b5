-- Why a file was not read.
use Rattle.std.specs.Prelude.{◌≡◌, ℕ, List, Some}
use Rattle.tfm_reader.specs.Tfm.{tfm_fault}
use Rattle.tfm_reader.specs.declared.faults.TfmStop.{TfmStop}
use Rattle.tfm_reader.specs.declared.faults.TfmStop.TheVariants.{Fault, NoMemory}

-- a fault is the first one of the file; want of memory may come at any file
abbrev pub IsStopFor : TfmStop → List ℕ → Type 0
IsStopFor (Fault f) bytes = tfm_fault bytes ≡ Some f
IsStopFor NoMemory bytes = Unit {0}
