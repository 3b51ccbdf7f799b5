-- What follows where the tables have no fault.
use Rattle.std.proofs.Common.{◌≡◌, ℕ, ◌+◌, ◌-◌, ◌<◌, ◌≤◌, false, not, List, [], ◌∷◌, Option, Some, None, refl, arith}
use Rattle.std.proofs.lemmas.Bool.{leb-false}
use Rattle.tfm_reader.specs.Tfm.{bc, byte_fault, codes_of, index_fault, is_zero, least_from, width_word, fault_if, first_some, is_index_wrong, is_width_byte_wrong, nw, tables_fault, width_index}
use Rattle.tfm_reader.specs.declared.faults.TfmFault.{TfmFault}
use Rattle.tfm_reader.specs.declared.faults.TfmFault.TheVariants.{WidthByte, WidthIndex, WidthZero}
use Rattle.tfm_reader.proofs.Least.{none_mapped, none_passes}

first_none : (a b c d : Option TfmFault) → first_some (a ∷ b ∷ c ∷ d ∷ []) ≡ None → (a ≡ None) × (d ≡ None)
first_none (Some f) b c d e = cc
first_none None (Some f) c d e = cc
first_none None None (Some f) d e = cc
first_none None None None (Some f) e = cc
first_none None None None None e = (refl, refl)

rows : (bytes : List ℕ) → tables_fault bytes ≡ None → (index_fault bytes ≡ None) × (byte_fault bytes ≡ None)
rows bytes none = first_none (index_fault bytes) (fault_if (is_width_byte_wrong bytes 0) (WidthByte 0)) (fault_if (not (is_zero (width_word bytes 0))) WidthZero) (byte_fault bytes) none

-- each width index has a width
pub index_right : (bytes : List ℕ) (i : ℕ) → tables_fault bytes ≡ None → i < codes_of bytes → width_index bytes i < nw bytes
index_right bytes i none lt =
    let found_none : least_from (is_index_wrong bytes) 0 (codes_of bytes) ≡ None = none_mapped (λ i. WidthIndex (bc bytes + i)) _ (rows bytes none).0 in
    leb-false _ _ (none_passes (is_index_wrong bytes) 0 (codes_of bytes) i found_none (omega arith) (omega (arith, lt)))

-- each width after the first is small enough
pub byte_right : (bytes : List ℕ) (i : ℕ) → tables_fault bytes ≡ None → 1 ≤ i → i < nw bytes → is_width_byte_wrong bytes i ≡ false
byte_right bytes i none some lt =
    let found_none : least_from (is_width_byte_wrong bytes) 1 (nw bytes - 1) ≡ None = none_mapped WidthByte _ (rows bytes none).1 in
    none_passes (is_width_byte_wrong bytes) 1 (nw bytes - 1) i found_none some (omega (arith, some, lt))
