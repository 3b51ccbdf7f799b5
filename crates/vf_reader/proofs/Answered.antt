-- The answer of a reader, by the laws: no other could come.
use Rattle.std.proofs.Common.{◌≡◌, ℕ, List, refl}
use Rattle.std.specs.Prelude.{Result, Ok, Err, IfErr, IfOk, MatchResult}
use Rattle.vf_reader.specs.Faults.{IsFirstFault}
use Rattle.vf_reader.specs.Fonts.{HasPacketsOf, IsVfFile, Virtual}
use Rattle.vf_reader.specs.Stops.{IfFault}
use Rattle.vf_reader.specs.declared.faults.VfFault.{VfFault}
use Rattle.vf_reader.specs.declared.faults.VfStop.{VfStop}
use Rattle.vf_reader.specs.declared.faults.VfStop.TheVariants.{Fault, NoMemory}
use Rattle.vf_reader.proofs.OneMeaning.{files_have_no_fault, first_faults_are_one}

-- a VF file is refused for want of memory alone
pub accepted : (bytes : List ℕ) (r : Result Virtual VfStop) → IfErr r (λ stop. IfFault stop (IsFirstFault bytes)) → (items : List (List ℕ)) → IsVfFile bytes items
    → IfErr r (λ stop. stop ≡ NoMemory)
accepted bytes (Ok font) first items h = tt
accepted bytes (Err (Fault f)) first items h = absurd (files_have_no_fault bytes items f h first)
accepted bytes (Err NoMemory) first items h = refl

-- bytes with a first fault are refused with it, or for want of memory
pub refused : (bytes : List ℕ) (r : Result Virtual VfStop) → IfOk r (λ font. (items : List (List ℕ)) × IsVfFile bytes items × HasPacketsOf items font)
    → IfErr r (λ stop. IfFault stop (IsFirstFault bytes)) → (f : VfFault) → IsFirstFault bytes f → MatchResult r (λ _. ⊥) (λ stop. IfFault stop (λ g. g ≡ f))
refused bytes (Ok font) read first f h = files_have_no_fault bytes read.0 f read.1 h
refused bytes (Err (Fault g)) read first f h = first_faults_are_one bytes g f first h
refused bytes (Err NoMemory) read first f h = tt
