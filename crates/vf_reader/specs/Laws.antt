-- What is true of VF files.
use Rattle.std.specs.Prelude.{◌≡◌, ℕ, ◌+◌, ◌≤◌, ◌⊎◌, List, [], ◌++◌, length, take}
use Rattle.big_endian.specs.Numbers.{AreBytes}
use Rattle.vf_reader.specs.Preamble.{preamble_size}
use Rattle.vf_reader.specs.Items.{IsItem, text_of}
use Rattle.vf_reader.specs.Fonts.{IsVfFile}
use Rattle.vf_reader.specs.Faults.{IsFirstFault}
use Rattle.vf_reader.specs.declared.faults.VfFault.{VfFault}
use Rattle.vf_reader.specs.declared.faults.VfFault.TheVariants.{Short}

-- no item begins another
abbrev pub NoItemBeginsAnother : Type 0
NoItemBeginsAnother = (a b x y : List ℕ) → IsItem a → IsItem b → a ++ x ≡ b ++ y → (a ≡ b) × (x ≡ y)

-- a VF file has one list of items, and so one packet at most for a code, and one list of local
-- fonts
abbrev pub FilesAreReadOneWay : Type 0
FilesAreReadOneWay =
    (bytes : List ℕ) (items others : List (List ℕ)) → IsVfFile bytes items → IsVfFile bytes others
    → items ≡ others

-- a VF file has no fault
abbrev pub FilesHaveNoFault : Type 0
FilesHaveNoFault =
    (bytes : List ℕ) (items : List (List ℕ)) (f : VfFault) → IsVfFile bytes items
    → IsFirstFault bytes f → ⊥

-- bytes have one first fault at most
abbrev pub FirstFaultsAreOne : Type 0
FirstFaultsAreOne =
    (bytes : List ℕ) (f g : VfFault) → IsFirstFault bytes f → IsFirstFault bytes g → f ≡ g

-- bytes are a VF file or have a first fault
abbrev pub FilesAreReadOrHaveAFault : Type 0
FilesAreReadOrHaveAFault =
    (bytes : List ℕ) → AreBytes bytes → ((items : List (List ℕ)) × IsVfFile bytes items) ⊎
    ((f : VfFault) × IsFirstFault bytes f)

-- the place of the closing command
abbrev pub closing_at : List ℕ → List (List ℕ) → ℕ
closing_at bytes items = preamble_size bytes + length (text_of items)

-- a VF file is too short at each cut before its closing command
abbrev pub CutFilesAreShort : Type 0
CutFilesAreShort =
    (bytes : List ℕ) (items : List (List ℕ)) (n : ℕ) → IsVfFile bytes items
    → n ≤ closing_at bytes items → IsFirstFault (take n bytes) Short

-- no byte at all is too short
abbrev pub EmptyFileIsShort : Type 0
EmptyFileIsShort = IsFirstFault [] Short
