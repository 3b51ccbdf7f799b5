-- The answer of a reader, by the laws: no other could come.
use Rattle.std.proofs.Common.{◌≡◌, ℕ, List, refl}
use Rattle.std.specs.Prelude.{Result, Ok, Err, IfErr, IfOk, MatchResult}
use Rattle.pk_packets.specs.Faults.{IsFirstFault}
use Rattle.pk_packets.specs.Fonts.{Glyphs, HasGlyphsOf, IsPkFile}
use Rattle.pk_packets.specs.Stops.{IfFault}
use Rattle.pk_packets.specs.declared.faults.PkFault.{PkFault}
use Rattle.pk_packets.specs.declared.faults.PkStop.{PkStop}
use Rattle.pk_packets.specs.declared.faults.PkStop.TheVariants.{Fault, NoMemory}
use Rattle.pk_packets.proofs.OneMeaning.{files_have_no_fault, first_faults_are_one}

-- a PK file is refused for want of memory alone
pub accepted : (bytes : List ℕ) (r : Result Glyphs PkStop) → IfErr r (λ stop. IfFault stop (IsFirstFault bytes)) → (items : List (List ℕ)) → IsPkFile bytes items
    → IfErr r (λ stop. stop ≡ NoMemory)
accepted bytes (Ok font) first items h = tt
accepted bytes (Err (Fault f)) first items h = absurd (files_have_no_fault bytes items f h first)
accepted bytes (Err NoMemory) first items h = refl

-- bytes with a first fault are refused with it, or for want of memory
pub refused : (bytes : List ℕ) (r : Result Glyphs PkStop) → IfOk r (λ font. (items : List (List ℕ)) × IsPkFile bytes items × HasGlyphsOf items font)
    → IfErr r (λ stop. IfFault stop (IsFirstFault bytes)) → (f : PkFault) → IsFirstFault bytes f → MatchResult r (λ _. ⊥) (λ stop. IfFault stop (λ g. g ≡ f))
refused bytes (Ok font) read first f h = files_have_no_fault bytes read.0 f read.1 h
refused bytes (Err (Fault g)) read first f h = first_faults_are_one bytes g f first h
refused bytes (Err NoMemory) read first f h = tt
